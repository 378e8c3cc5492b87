use Rattle.solve_passes.proofs.Concluding.{of_err, of_ok}
use Rattle.solve_top.proofs.Generated.{ground_failed, ground_then}
use Rattle.solve_top.proofs.program.solve_generated.Goals as goal

pub returns-then-is_err-clause-printed : goal.returns-then-is_err-clause-printed
returns-then-is_err-clause-printed g c =
    ground_failed c.args.model.now c.args.workers (g.S.Sink.taken c.args.out.now) (g.S.Sink.taken c.put_ground.new.out) (of_err c.put_ground.result c.if-is_err.ensures.value c.put_ground.ensures.err)

pub returns-clause-printed : goal.returns-clause-printed
returns-clause-printed g c =
    ground_then c.args.model.now c.args.workers (g.S.Sink.taken c.args.out.now) (g.S.Sink.taken c.put_ground.new.out) (g.S.Sink.taken c.solve-solved.new.out) c.solve-solved.result
    (of_ok c.put_ground.result c.if-is_err.ensures.value c.put_ground.ensures.ok) c.solve-solved.ensures.concluded
