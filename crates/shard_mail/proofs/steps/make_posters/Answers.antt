use Rattle.std.proofs.Common.{◌∙◌, ap, arith}
use Rattle.shard_mail.proofs.Delivery as delivery
use Rattle.shard_mail.proofs.steps.make_posters.Goals as goal

pub another-made-requires-clause-rule : goal.another-made-requires-clause-rule
another-made-requires-clause-rule g c =
    let p = c.loop.pass in
    let now = c.loop.invariant.1 in
    let first = c.requires.new in
    delivery.makes g.row.T-Terms.coded g.T.Signed.lawful g.T.Signed.sender_of g.met.T.Signed.starts g.met.T.Signed.begins p.id p.me.view.client
    (ap (λ v. v.role) now ∙ ap (λ v. v.role) first)
    (omega (arith, ap (λ v. v.made) now, ap (λ v. v.senders) now, ap (λ v. v.senders) first, c.loop-test.true))
