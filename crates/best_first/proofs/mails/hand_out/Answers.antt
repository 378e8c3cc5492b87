use Rattle.std.proofs.Common.{◌∙◌, arith}
use Rattle.best_first.proofs.Hands.{handed_all, handed_at}
use Rattle.best_first.proofs.mails.hand_out.Goals as goal

pub loop-poster-preserved : goal.loop-poster-preserved
loop-poster-preserved c =
    handed_at c.args.posters.items c.loop-poster.posters.items c.pop.new.self.items c.args.lists.now.items c.loop-poster.lists.items c.in-Some.poster c.len.result c.index_mut.result.now c.push_reserved.new.self
    c.loop-poster.invariant c.in-Some.ensures.items (c.len.ensures ∙ c.pop.new.self.ok.0) c.index_mut.ensures.value (c.push_reserved.ensures.items, c.push_reserved.ensures.capacity)

pub returns : goal.returns
returns c =
    let long = c.loop-poster.posters.ok.0 in
    let none = c.in_default.ensures.cases.0 in
    handed_all c.args.posters.items c.loop-poster.posters.items c.args.lists.now.items c.loop-poster.lists.items (omega (arith, long, none)) c.loop-poster.invariant
