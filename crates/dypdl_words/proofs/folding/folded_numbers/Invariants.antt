use Rattle.std.proofs.Common.{◌≡◌}
use Rattle.dypdl_words.specs.Folding.{folded_numbers}
use Rattle.dypdl_words.proofs.folding.folded_numbers.Given as goal

-- what is left decides the rest
abbrev pub invariant-loop-n : goal.invariant-loop-n
invariant-loop-n l = folded_numbers l.op l.folded l.n-iterator.rest.items ≡ folded_numbers l.fn.op l.fn.first l.fn.more
