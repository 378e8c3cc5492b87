use Rattle.std.proofs.Common.{subst, sym}
use Rattle.shard_mail.specs.Ends.{AreNewPosters}
use Rattle.best_turns.specs.Envelopes.{terms_of}
use Rattle.best_first.specs.declared.mails.Mails.{Mails}
use Rattle.best_first.proofs.Mailing.{mails_more}
use Rattle.best_first.proofs.mails.add_box.Goals as goal

pub returns : goal.returns
returns c =
    let new : Mails = record { boxes = c.push.new.self; takers = c.push-2.new.self; posters = c.hand_out.new.lists } in
    let box = c.in_ok-mailbox.mailbox in
    λ count lt h.
    mails_more c.args.shards (terms_of c.args.model.now) count c.args.mails.now new box c.into_list.result.items c.in_ok-mailbox.taker h lt c.in_ok-mailbox.ensures.mailbox
    (subst (AreNewPosters box (terms_of c.args.model.now)) (sym c.into_list.ensures) c.in_ok-mailbox.ensures.new) c.in_ok-mailbox.ensures.taker c.hand_out.ensures c.in_ok-push.ensures.items c.in_ok-push-2.ensures.items
