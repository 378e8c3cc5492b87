use Rattle.std.proofs.Common.{sym, subst}
use Rattle.crossbeam_queue.specs.Fifo.{Forks}
use Rattle.shard_mail.specs.Mails.{Mail, taker_view, spent_view}
use Rattle.shard_mail.proofs.Delivery as delivery
use Rattle.shard_mail.proofs.steps.open.Goals as goal

pub another-rest-requires-clause-rule : goal.another-rest-requires-clause-rule
another-rest-requires-clause-rule g c =
    subst (λ v. Forks (Mail g.row.T-Terms.coded g.T.Signed.lawful g.T.Signed.sender_of) c.args.pass.now.id v (taker_view g.N.Names.senders g.N.Names.name) spent_view) (sym c.requires.new)
    (delivery.opens g.row.T-Terms.coded g.T.Signed.lawful g.T.Signed.sender_of g.met.T.Signed.starts g.met.T.Signed.begins c.args.pass.now.id g.N.Names.senders g.N.Names.name)
