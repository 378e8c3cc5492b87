use Rattle.std.proofs.Common.{◌-◌, ◌≤◌}
use Rattle.solve_passes.proofs.alone.make_passes_alone.Given as goal
use Rattle.solve_passes.specs.Ongoing.{HistoryOf, IsOngoing}

-- the passes so far were printed
abbrev pub invariant-passes : goal.invariant-passes
invariant-passes g l = record {
  ongoing : IsOngoing l.model l.options l.board l.progress l.seat;
  history : HistoryOf l.model l.options l.gap l.printing (g.S.Sink.taken l.fn.out) (g.S.Sink.taken l.out) l.progress;
  count : g.S.Sink.faults l.fn.out ≤ g.S.Sink.faults l.out;
}

-- no more than 56 passes come before a pass
abbrev pub decreases-passes : goal.decreases-passes
decreases-passes g l = 57 - l.progress.passes
