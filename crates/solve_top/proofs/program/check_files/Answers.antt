use Rattle.command_line.specs.declared.jobs.Job.TheVariants as jobs
use Rattle.solve_top.proofs.Programs.{was_checked, did_nothing}
use Rattle.solve_top.proofs.program.check_files.Goals as goal

pub returns-in-Ok-clause-printed : goal.returns-in-Ok-clause-printed
returns-in-Ok-clause-printed g c =
    was_checked (g.F.Shelf.bytes_under c.args.shelf.now) c.args.domain.now c.args.problem.now c.args.cert.now c.args.proved c.args.part c.in-Ok.claimed.model c.in-Ok.claimed.cert (g.S.Sink.taken c.args.out.now) (g.S.Sink.taken c.put_check.new.out) c.put_check.result
    c.in-Ok.ensures.cert c.put_check.ensures.printed

pub returns-in-Err-clause-printed : goal.returns-in-Err-clause-printed
returns-in-Err-clause-printed g c =
    did_nothing (g.F.Shelf.bytes_under c.args.shelf.now) (jobs.Check c.args.domain.now c.args.problem.now c.args.cert.now c.args.proved c.args.part) c.in-Err.cause (g.S.Sink.taken c.args.out.now) (g.S.Sink.taken c.put_cause.new.out) c.put_cause.result
    c.in-Err.ensures.cause c.put_cause.ensures.printed
