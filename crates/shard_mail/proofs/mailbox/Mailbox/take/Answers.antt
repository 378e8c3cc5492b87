use Rattle.shard_mail.proofs.Delivery as delivery
use Rattle.shard_mail.proofs.mailbox.Mailbox.take.Goals as goal

pub pop_as-requires-clause-rule : goal.pop_as-requires-clause-rule
pop_as-requires-clause-rule g c =
    let p = c.taker.inside.pass in (
      delivery.takes g.row.T-Terms.coded g.T.Signed.lawful g.T.Signed.sender_of g.met.T.Signed.starts g.met.T.Signed.begins p.id p.me.view.client c.taker.invariant.2,
      delivery.learns g.row.T-Terms.coded g.T.Signed.lawful g.T.Signed.sender_of g.met.T.Signed.starts g.met.T.Signed.begins p.id p.me.view.client c.taker.invariant.2,
    )
