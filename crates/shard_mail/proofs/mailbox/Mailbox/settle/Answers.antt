use Rattle.std.proofs.Common.{ap, ◌∙◌, ◌++◌}
use Rattle.shard_mail.specs.Ends.{lists_of}
use Rattle.shard_mail.proofs.Letters.{begun_of_rest}
use Rattle.shard_mail.proofs.Settling as settling
use Rattle.shard_mail.proofs.mailbox.Mailbox.settle.Goals as goal

pub returns-in_err-left-clause-begun : goal.returns-in_err-left-clause-begun
returns-in_err-left-clause-begun g c =
    let v = c.end_posters.new.pass.me.view.client in
    let old = c.taker.inside.pass.me.view.client.ended in
    settling.begun g.T.Signed.sender_of c.args.posters c.args.taker.taken v.taken old v.ended
    (ap (λ k. k.taken) c.end_posters.ensures.ended ∙ ap (λ t. t.taken) c.taker.view_is)
    (ap (λ k. k.ended) c.end_posters.ensures.ended ∙ ap (λ ps. old ++ lists_of ps) c.into_list.ensures)
    c.in_err-left.ensures.begun

pub returns-clause-settled : goal.returns-clause-settled
returns-clause-settled g c =
    let v = c.end_posters.new.pass.me.view.client in
    let old = c.taker.inside.pass.me.view.client.ended in
    settling.settled g.T.Signed.sender_of c.args.posters c.args.taker.taken v.taken old v.ended
    (ap (λ k. k.taken) c.end_posters.ensures.ended ∙ ap (λ t. t.taken) c.taker.view_is)
    (ap (λ k. k.ended) c.end_posters.ensures.ended ∙ ap (λ ps. old ++ lists_of ps) c.into_list.ensures)
    c.in_ok-left.left.items c.of.result c.of.ensures c.in_ok-left.ensures.rest

pub returns-clause-begun : goal.returns-clause-begun
returns-clause-begun g c =
    let v = c.end_posters.new.pass.me.view.client in
    let old = c.taker.inside.pass.me.view.client.ended in
    settling.begun g.T.Signed.sender_of c.args.posters c.args.taker.taken v.taken old v.ended
    (ap (λ k. k.taken) c.end_posters.ensures.ended ∙ ap (λ t. t.taken) c.taker.view_is)
    (ap (λ k. k.ended) c.end_posters.ensures.ended ∙ ap (λ ps. old ++ lists_of ps) c.into_list.ensures)
    (begun_of_rest g.T.Signed.sender_of v.taken v.ended c.in_ok-left.left.items c.in_ok-left.ensures.rest)
