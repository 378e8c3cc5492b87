use Rattle.solve_passes.proofs.AfterPass.{closed, halted}
use Rattle.solve_passes.proofs.Concluding.{of_ok}
use Rattle.solve_passes.proofs.solving.after_pass.Goals as goal
use Rattle.solve_passes.specs.Ongoing.{rest_text}

pub returns-in-Some-clause-followed : goal.returns-in-Some-clause-followed
returns-in-Some-clause-followed g c =
    let added = c.add_pass.ensures in (
      added.0,
      added.1,
      halted c.args.printing c.args.model.now (g.S.Sink.taken c.args.out.now) (g.S.Sink.taken c.add_pass.new.out) (g.S.Sink.taken c.after_halt.new.out) c.args.progress.now c.add_pass.new.progress c.args.tally added.0
          (of_ok c.add_pass.result c.if-is_err.ensures.value added.3) (rest_text c.args.printing c.args.model.now c.args.progress.now c.args.counts added.0 c.args.tally.visited c.args.tally.dropped) (of_ok c.add_pass.result c.if-is_err.ensures.value added.2.ok) c.args.halt c.in-Some.cause c.after_halt.result c.in-Some.is c.after_halt.ensures.told,
    )

pub returns-in-None-clause-followed : goal.returns-in-None-clause-followed
returns-in-None-clause-followed g c =
    let added = c.add_pass.ensures in (
      added.0,
      added.1,
      closed c.args.printing c.args.model.now (g.S.Sink.taken c.args.out.now) (g.S.Sink.taken c.add_pass.new.out) (g.S.Sink.taken c.after_closed.new.out) c.args.progress.now c.add_pass.new.progress c.args.tally added.0
          (of_ok c.add_pass.result c.if-is_err.ensures.value added.3) (rest_text c.args.printing c.args.model.now c.args.progress.now c.args.counts added.0 c.args.tally.visited c.args.tally.dropped) (of_ok c.add_pass.result c.if-is_err.ensures.value added.2.ok) c.after_closed.new.progress c.args.halt c.after_closed.result c.in-None.is
          c.after_closed.ensures.goes_on c.after_closed.ensures.ends,
    )
