use Rattle.std.proofs.Common.{◌≡◌}
use Rattle.dypdl_words.specs.Folding.{connected}
use Rattle.dypdl_words.proofs.folding.connected.Given as goal

-- what is left decides the rest
abbrev pub invariant-loop-c : goal.invariant-loop-c
invariant-loop-c l = connected l.op l.folded l.c-iterator.rest.items ≡ connected l.fn.op l.fn.first l.fn.more
