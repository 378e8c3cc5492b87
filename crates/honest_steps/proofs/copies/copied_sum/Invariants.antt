use Rattle.std.proofs.Common.{◌≡◌, take}
use Rattle.honest_steps.proofs.copies.copied_sum.Given as goal

abbrev pub invariant-loop-term : goal.invariant-loop-term
invariant-loop-term l = l.same.items ≡ take l.term-index l.sum
