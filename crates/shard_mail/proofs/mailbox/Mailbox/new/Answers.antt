use Rattle.std.proofs.Common.{ℕ, ap, subst}
use Rattle.shard_mail.specs.Ends.{ArePostersOf}
use Rattle.shard_mail.proofs.Delivery as delivery
use Rattle.shard_mail.proofs.Settling.{new_are_of}
use Rattle.shard_mail.proofs.mailbox.Mailbox.new.Goals as goal

pub with_rule-requires : goal.with_rule-requires
with_rule-requires g c = delivery.opened g.row.T-Terms.coded g.T.Signed.lawful g.T.Signed.sender_of g.met.T.Signed.starts g.met.T.Signed.begins

pub returns-clause-posters : goal.returns-clause-posters
returns-clause-posters g c =
    rw c.of.ensures (subst (λ (n : ℕ). ArePostersOf record { id = c.in_ok-queue.queue.web; senders = n } c.in_ok-posters.posters.items) (ap (λ v. v.senders) c.open.ensures.view) (new_are_of _ _ _ c.in_ok-posters.ensures.posters))
