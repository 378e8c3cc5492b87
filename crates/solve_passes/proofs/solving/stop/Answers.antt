use Rattle.dp_model.specs.declared.answers.Verdict.TheVariants as verdicts
use Rattle.solve_passes.proofs.Concluding.{bound_failed, of_err, of_ok, told_behind}
use Rattle.solve_passes.proofs.solving.stop.Goals as goal
use Rattle.solve_passes.specs.Records.{Ended}

pub returns-then-is_err-clause-told : goal.returns-then-is_err-clause-told
returns-then-is_err-clause-told g c =
    bound_failed c.args.printing c.args.model.now (g.S.Sink.taken c.args.out.now) (g.S.Sink.taken c.put_bound_line.new.out) c.args.bound (Ended (verdicts.Stopped c.args.visited))
    (of_err c.put_bound_line.result c.if-is_err.ensures.value c.put_bound_line.ensures.err)

pub returns-clause-told : goal.returns-clause-told
returns-clause-told g c =
    told_behind c.args.printing c.args.model.now (g.S.Sink.taken c.args.out.now) (g.S.Sink.taken c.put_bound_line.new.out) (g.S.Sink.taken c.conclude.new.out) c.conclude.result c.args.bound (Ended (verdicts.Stopped c.args.visited))
    (of_ok c.put_bound_line.result c.if-is_err.ensures.value c.put_bound_line.ensures.ok) c.conclude.ensures.printed
