use Rattle.solve_passes.proofs.Concluding.{of_err, of_ok}
use Rattle.solve_top.proofs.Generated.{line_failed, line_then, line_then_none}
use Rattle.solve_top.proofs.program.generate_and_solve.Goals as goal

pub returns-then-is_err-clause-printed : goal.returns-then-is_err-clause-printed
returns-then-is_err-clause-printed g c = λ files.
    line_failed c.args.kind c.args.size c.args.seed c.args.workers files (g.S.Sink.taken c.args.out.now) (g.S.Sink.taken c.put_generated.new.out) (g.S.Sink.taken c.put_generated.new.out)
    (of_err c.put_generated.result c.if-is_err.ensures.value c.put_generated.ensures.err)

pub returns-in-Ok-clause-printed : goal.returns-in-Ok-clause-printed
returns-in-Ok-clause-printed g c = λ files.
    line_then c.args.kind c.args.size c.args.seed c.args.workers files (g.S.Sink.taken c.args.out.now) (g.S.Sink.taken c.put_generated.new.out) (g.S.Sink.taken c.solve_generated.new.out) c.in-Ok.model c.solve_generated.result
    (of_ok c.put_generated.result c.if-is_err.ensures.value c.put_generated.ensures.ok) c.in-Ok.ensures.model c.solve_generated.ensures.printed

pub returns-in-Err-clause-printed : goal.returns-in-Err-clause-printed
returns-in-Err-clause-printed g c = λ files.
    line_then_none c.args.kind c.args.size c.args.seed c.args.workers files (g.S.Sink.taken c.args.out.now) (g.S.Sink.taken c.put_generated.new.out) (g.S.Sink.taken c.put_cause.new.out) c.in-Err.cause c.put_cause.result
    (of_ok c.put_generated.result c.if-is_err.ensures.value c.put_generated.ensures.ok) c.in-Err.ensures.cause c.put_cause.ensures.printed
