use Rattle.std.proofs.Common.{◌≡◌, length}
use Rattle.best_first.specs.Alone.{IsResting}
use Rattle.best_first.proofs.Resting.{EachBelow}
use Rattle.best_first.proofs.alone.are_resting.Given as goal

abbrev pub invariant-loop-place : goal.invariant-loop-place
invariant-loop-place g l = record {
  rest : EachBelow IsResting l.place l.shards.items;
  long : l.place-end ≡ length l.shards.items;
}
