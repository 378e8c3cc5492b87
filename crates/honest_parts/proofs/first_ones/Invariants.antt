use Rattle.std.proofs.Common.{◌≡◌, ◌++◌, true, drop}
use Rattle.honest_parts.proofs.First.{first_from}
use Rattle.honest_parts.proofs.first_ones.Given as goal

abbrev pub invariant-loop-one : goal.invariant-loop-one
invariant-loop-one l = l.kept.items ++ first_from l.so_far (drop l.one-index l.proved) ≡ first_from true l.proved
