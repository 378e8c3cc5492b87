use Rattle.std.proofs.Common.{◌≡◌}
use Rattle.dypdl_words.specs.Folding.{folded_sets}
use Rattle.dypdl_words.proofs.folding.folded_sets.Given as goal

-- what is left decides the rest
abbrev pub invariant-loop-set : goal.invariant-loop-set
invariant-loop-set l = folded_sets l.op l.folded l.set-iterator.rest.items ≡ folded_sets l.fn.op l.fn.first l.fn.more
