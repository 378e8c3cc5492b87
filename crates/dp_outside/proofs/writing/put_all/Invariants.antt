use Rattle.std.proofs.Common.{length, take, ◌-◌, ◌≤◌}
use Rattle.dp_outside.specs.Outside.{Takes}
use Rattle.dp_outside.proofs.writing.put_all.Given as goal

abbrev pub invariant-loop-done : goal.invariant-loop-done
invariant-loop-done g l = record {
  within : l.done ≤ length l.piece;
  front : Takes (g.S.Sink.taken l.initial.out) (g.S.Sink.taken l.out) (take l.done l.piece);
  count : g.S.Sink.faults l.initial.out ≤ g.S.Sink.faults l.out;
}

abbrev pub decreases-loop-done : goal.decreases-loop-done
decreases-loop-done g l = length l.piece - l.done
