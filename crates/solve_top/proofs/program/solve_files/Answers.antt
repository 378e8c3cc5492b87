use Rattle.command_line.specs.declared.jobs.Job.TheVariants as jobs
use Rattle.solve_top.proofs.Programs.{searched, did_nothing}
use Rattle.solve_top.proofs.program.solve_files.Goals as goal

pub returns-in-Ok-clause-printed : goal.returns-in-Ok-clause-printed
returns-in-Ok-clause-printed g c =
    searched (g.F.Shelf.bytes_under c.args.shelf.now) c.args.domain.now c.args.problem.now c.args.search.now c.in-Ok.model (g.S.Sink.taken c.args.out.now)
    (g.S.Sink.taken c.solve_model.new.out) c.solve_model.result c.in-Ok.ensures.model c.solve_model.ensures.printed

pub returns-in-Err-clause-printed : goal.returns-in-Err-clause-printed
returns-in-Err-clause-printed g c =
    did_nothing (g.F.Shelf.bytes_under c.args.shelf.now) (jobs.Solve c.args.domain.now c.args.problem.now c.args.search.now) c.in-Err.cause (g.S.Sink.taken c.args.out.now)
    (g.S.Sink.taken c.put_cause.new.out) c.put_cause.result c.in-Err.ensures.cause c.put_cause.ensures.printed
