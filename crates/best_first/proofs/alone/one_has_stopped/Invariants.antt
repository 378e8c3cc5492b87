use Rattle.std.proofs.Common.{◌≡◌, length}
use Rattle.best_first.proofs.alone.one_has_stopped.Given as goal

abbrev pub invariant-loop-place : goal.invariant-loop-place
invariant-loop-place g l = l.place-end ≡ length l.shards.items
