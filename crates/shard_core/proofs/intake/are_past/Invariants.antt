use Rattle.std.proofs.Common.{ℕ, ◌<◌, get_or}
use Rattle.shard_core.proofs.intake.are_past.Given as goal

abbrev pub invariant-loop-j : goal.invariant-loop-j
invariant-loop-j l = (k : ℕ) → k < l.j → l.initial.layer < get_or l.initial.layers k 1
