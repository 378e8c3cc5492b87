use Rattle.solve_best.proofs.Told.{ended, front_failed, of_err, of_ok}
use Rattle.solve_best.proofs.printing.put_run.Goals as goal
use Rattle.solve_best.specs.Runs.{run_of}

pub returns-then-is_err-clause-printed : goal.returns-then-is_err-clause-printed
returns-then-is_err-clause-printed g c =
    front_failed c.args.model.now (run_of c.args.run) (g.S.Sink.taken c.args.out.now) (g.S.Sink.taken c.put_front.new.out) (g.S.Sink.taken c.put_front.new.out) c.solved_by.result (of_err c.put_front.result c.if-is_err.ensures.value c.put_front.ensures.err) c.solved_by.ensures

pub returns-clause-printed : goal.returns-clause-printed
returns-clause-printed g c =
    ended c.args.model.now (run_of c.args.run) (g.S.Sink.taken c.args.out.now) (g.S.Sink.taken c.put_front.new.out) (g.S.Sink.taken c.put_ending.new.out) c.put_ending.result c.solved_by-2.result (of_ok c.put_front.result c.if-is_err.ensures.value c.put_front.ensures.ok)
    c.put_ending.ensures.printed c.solved_by-2.ensures
