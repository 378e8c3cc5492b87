use Rattle.std.proofs.Common.{None, arith, subst, sym}
use Rattle.solve_passes.proofs.Passing.{begins}
use Rattle.solve_passes.proofs.alone.make_passes_alone.Goals as goal
use Rattle.solve_passes.specs.Ongoing.{IsOngoing}
use Rattle.width_loop.specs.declared.schedule.Schedule.{Schedule}

pub passes-init : goal.passes-init
passes-init g c = record {
  ongoing =
      subst (λ (s : Schedule). IsOngoing c.args.model.now c.args.options.now c.args.board.now (record { passes = 0; schedule = s; visited = 0; held = None; bound = None }) c.args.seat.now) (sym c.new.ensures) c.requires.begun;
  history = begins c.args.printing c.args.model.now c.args.options.now c.args.gap (g.S.Sink.taken c.args.out.now);
  count = omega arith;
}
