use Rattle.std.proofs.Common.{sym, ap, ◌∙◌, ◌++◌, ◌∷◌, [], subst}
use Rattle.shard_mail.proofs.Delivery as delivery
use Rattle.shard_mail.proofs.mailbox.Mailbox.post.Goals as goal

pub push_as-requires-clause-rule : goal.push_as-requires-clause-rule
push_as-requires-clause-rule g c n =
    let p = c.poster.inside.pass in
    delivery.posts g.row.T-Terms.coded g.T.Signed.lawful g.T.Signed.sender_of g.met.T.Signed.starts g.met.T.Signed.begins n p.id p.me.view.client c.args.letter
    c.poster.invariant.2
    (c.requires.sender ∙ sym (ap (λ k. k.number) c.poster.view_is))
    (λ terms named. subst (λ xs. g.T.Signed.lawful terms (xs ++ c.args.letter ∷ [])) (sym (ap (λ k. k.posted) c.poster.view_is)) (c.requires.lawful terms (named ∙ ap (λ k. k.terms) c.poster.view_is)))
