use Rattle.std.proofs.Common.{Err, subst}
use Rattle.cert_making.specs.Written.{Tells}
use Rattle.cert_making.specs.declared.ends.CertEnd.{CertEnd}
use Rattle.solve_top.proofs.Behinds.{broken_behind, no_room_behind, puts_behind}
use Rattle.solve_top.proofs.making.put_behind.Goals as goal

pub returns-in-Ok-clause-printed : goal.returns-in-Ok-clause-printed
returns-in-Ok-clause-printed g c =
    puts_behind c.args.model.now c.args.options.now c.args.claim.now c.args.status (g.S.Sink.taken c.args.out.now) (g.S.Sink.taken c.put_certificate.new.out) (g.S.Sink.taken c.put_written.new.out) _ _ c.in-Ok.written c.put_written.result c.status_after.result
    c.in-Ok.ensures.told c.put_written.ensures c.status_after.ensures.ok c.status_after.ensures.err

pub returns-in-Err-Write-clause-printed : goal.returns-in-Err-Write-clause-printed
returns-in-Err-Write-clause-printed g c =
    broken_behind c.args.model.now c.args.options.now c.args.claim.now c.args.status (g.S.Sink.taken c.args.out.now) (g.S.Sink.taken c.put_certificate.new.out)
    (subst (λ (end : CertEnd). Tells c.args.model.now c.args.options.now c.args.claim.now (g.S.Sink.taken c.args.out.now) (g.S.Sink.taken c.put_certificate.new.out) (Err end)) c.in-Err-Write.field-0-is c.in-Err-Write.ensures.told)

pub returns-in-Err-Memory-clause-printed : goal.returns-in-Err-Memory-clause-printed
returns-in-Err-Memory-clause-printed g c =
    no_room_behind c.args.model.now c.args.options.now c.args.claim.now c.args.status (g.S.Sink.taken c.args.out.now) (g.S.Sink.taken c.put_certificate.new.out) (g.S.Sink.taken c.run_out.new.out) c.run_out.result
    (subst (λ (end : CertEnd). Tells c.args.model.now c.args.options.now c.args.claim.now (g.S.Sink.taken c.args.out.now) (g.S.Sink.taken c.put_certificate.new.out) (Err end)) c.in-Err-Memory.field-0-is c.in-Err-Memory.ensures.told)
    c.run_out.ensures.printed
