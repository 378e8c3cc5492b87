use Rattle.solve_top.proofs.Programs.{refused_printed}
use Rattle.solve_top.proofs.program.put_cause.Goals as goal

pub returns-in-Refused-clause-printed : goal.returns-in-Refused-clause-printed
returns-in-Refused-clause-printed g c =
    refused_printed (g.S.Sink.taken c.args.out.now) (g.S.Sink.taken c.put_refusal.new.out) (g.S.Sink.faults c.args.out.now) (g.S.Sink.faults c.put_refusal.new.out) c.args.cause.now c.in-Refused.number c.in-Refused.place c.in-Refused.offset c.put_refusal.result
    c.status_after-in-Refused.result c.in-Refused.is c.put_refusal.ensures c.status_after-in-Refused.ensures.ok c.status_after-in-Refused.ensures.err
