use Rattle.command_line.specs.declared.jobs.Job.TheVariants as jobs
use Rattle.solve_top.proofs.Programs.{was_replayed, did_nothing}
use Rattle.solve_top.proofs.program.replay_files.Goals as goal

pub returns-in-Ok-clause-printed : goal.returns-in-Ok-clause-printed
returns-in-Ok-clause-printed g c =
    was_replayed (g.F.Shelf.bytes_under c.args.shelf.now) c.args.domain.now c.args.problem.now c.args.list.now c.in-Ok.listed.model c.in-Ok.listed.steps (g.S.Sink.taken c.args.out.now) (g.S.Sink.taken c.put_replay.new.out) c.put_replay.result
    c.in-Ok.ensures.steps c.put_replay.ensures.printed

pub returns-in-Err-clause-printed : goal.returns-in-Err-clause-printed
returns-in-Err-clause-printed g c =
    did_nothing (g.F.Shelf.bytes_under c.args.shelf.now) (jobs.Replay c.args.domain.now c.args.problem.now c.args.list.now) c.in-Err.cause (g.S.Sink.taken c.args.out.now) (g.S.Sink.taken c.put_cause.new.out) c.put_cause.result
    c.in-Err.ensures.cause c.put_cause.ensures.printed
