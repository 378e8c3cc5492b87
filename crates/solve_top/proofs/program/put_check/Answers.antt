use Rattle.solve_top.proofs.Searching.{was_told}
use Rattle.solve_top.proofs.program.put_check.Goals as goal

pub returns-in-Ok-check_asked-clause-printed : goal.returns-in-Ok-check_asked-clause-printed
returns-in-Ok-check_asked-clause-printed g c =
    was_told c.args.claimed.model c.args.proved c.in-Ok.searched c.in-Ok.ensures c.args.claimed.cert c.args.part c.deref.result.now c.in-Ok-check_asked.told (g.S.Sink.taken c.args.out.now) (g.S.Sink.taken c.put_told-written.new.out) _ _
    c.put_told-written.result c.checked_status.result c.status_after.result c.deref.ensures.value c.in-Ok-check_asked.ensures c.checked_status.ensures c.put_told-written.ensures c.status_after.ensures.ok c.status_after.ensures.err
