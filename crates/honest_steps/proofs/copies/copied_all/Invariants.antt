use Rattle.std.proofs.Common.{◌≡◌, take}
use Rattle.honest_steps.proofs.copies.copied_all.Given as goal

abbrev pub invariant-loop-x : goal.invariant-loop-x
invariant-loop-x l = l.same.items ≡ take l.x-index l.known
