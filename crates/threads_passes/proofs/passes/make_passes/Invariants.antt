use Rattle.std.proofs.Common.{◌-◌, ◌≤◌}
use Rattle.threads_passes.proofs.passes.make_passes.Given as goal

abbrev pub invariant-loop-share : goal.invariant-loop-share
invariant-loop-share g l = record {
  some : 1 ≤ l.share;
}

abbrev pub decreases-loop-share : goal.decreases-loop-share
decreases-loop-share g l = 1048576 - l.share
