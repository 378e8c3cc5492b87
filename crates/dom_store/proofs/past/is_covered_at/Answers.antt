use Rattle.std.proofs.Common.{◌≡◌, Some, true, sym, ◌∙◌, subst}
use Rattle.dom_store.specs.Covering.{bare, covers}
use Rattle.dom_store.specs.declared.past_node.PastNode.{PastNode}
use Rattle.dom_store.proofs.Remembering.{there_at}
use Rattle.dom_store.proofs.past.is_covered_at.Goals as goal

pub covers_kept-requires-clause-past : goal.covers_kept-requires-clause-past
covers_kept-requires-clause-past g c = c.requires.kept c.in-Some.past.now (c.args.place, there_at c.args.kept.now c.args.place c.in-Some.past.now c.in-Some.ensures.lookup.3.0 c.in-Some.ensures.lookup.1)

pub returns-in-Some : goal.returns-in-Some
returns-in-Some g c = λ yes n there.
    let is : Some c.in-Some.past.now ≡ Some n = sym (there_at c.args.kept.now c.args.place c.in-Some.past.now c.in-Some.ensures.lookup.3.0 c.in-Some.ensures.lookup.1) ∙ there in
    let same : c.in-Some.past.now ≡ n = cc in
    subst (λ (x : PastNode). covers g.K.Covers.prune g.K.Covers.minimize g.K.Covers.operator c.args.layout.now c.args.node.now (bare x.state x.cost) ≡ true) same (c.covers_kept.ensures yes)
