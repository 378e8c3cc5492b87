use Rattle.std.proofs.Common.{refl, ap, ◌∙◌, length}
use Rattle.std.specs.Vec.Iter.{into_iter_items}
use Rattle.shard_mail.proofs.Settling.{next_there}
use Rattle.shard_mail.proofs.Delivery as delivery
use Rattle.shard_mail.proofs.steps.end_posters.Goals as goal

pub absorb-requires-clause-queue : goal.absorb-requires-clause-queue
absorb-requires-clause-queue g c =
    let at = c.loop-poster.invariant in
    let there = next_there c.loop-poster.yielded (into_iter_items c.loop-poster.poster-iterator) c.args.posters.items (into_iter_items c.next.new.self) c.in-Some.poster at.2 c.in-Some.ensures.steps.0 in
    let web = ap (λ p. p.mailbox.id) c.poster.view_is ∙ c.requires.posters (length c.loop-poster.yielded) c.in-Some.poster there in
    (at.0, ((web, refl), c.poster.invariant.0, c.poster.invariant.1))

pub absorb-requires-clause-rule : goal.absorb-requires-clause-rule
absorb-requires-clause-rule g c =
    let p = c.loop-poster.pass in
    let o = c.poster.inside.pass in
    delivery.ends g.row.T-Terms.coded g.T.Signed.lawful g.T.Signed.sender_of g.met.T.Signed.starts g.met.T.Signed.begins p.id p.me.view.client o.id o.me.view.client
    (ap (λ v. v.role) c.loop-poster.invariant.1 ∙ c.requires.takes) c.poster.invariant.2
