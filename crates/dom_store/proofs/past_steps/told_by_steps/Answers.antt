use Rattle.dom_store.specs.Past.{covers_past}
use Rattle.dom_store.specs.declared.past_node.PastNode.{PastNode}
use Rattle.dom_store.proofs.Under.{none_past, some_past}
use Rattle.dom_store.proofs.past_steps.told_by_steps.Goals as goal

pub returns-in_default : goal.returns-in_default
returns-in_default g c =
    none_past g.K.Covers.prune g.K.Covers.minimize g.K.Covers.operator g.met.K.Covers.one_key c.args.layout.now c.args.stairs.now.row c.args.stairs.now.steps c.args.kept.now c.requires.steps
    c.args.node.now c.glance.result c.glance.ensures c.args.key c.requires.key (c.is_of.ensures.yes c.if-not-is_of.false) c.in_default.ensures.none

pub returns-then-covers_at : goal.returns-then-covers_at
returns-then-covers_at g c =
    some_past (λ (n : PastNode). covers_past g.K.Covers.prune g.K.Covers.minimize g.K.Covers.operator c.args.layout.now n c.args.node.now) c.args.kept.now c.in-Some.place c.covers_at.result c.covers_at.ensures c.if-covers_at.true
