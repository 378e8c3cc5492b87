use Rattle.std.proofs.Common.{List, [], subst, sym}
use Rattle.dp_claims.specs.Enough.{Has}
use Rattle.state_layout.specs.declared.node.Node.{Node}
use Rattle.dom_store.specs.Contents.{Contents}
use Rattle.best_shard.specs.Opening.{Opens}
use Rattle.best_shard.proofs.Opens.{added_free, opens_added}
use Rattle.best_shard.proofs.opening.add_new.Goals as goal

pub add-requires-clause-layout : goal.add-requires-clause-layout
add-requires-clause-layout g c = sym c.requires.layout

pub returns-clause-opens : goal.returns-clause-opens
returns-clause-opens g c = λ p of law prune.
    let old = c.args.waiting.now.nodes in
    subst (λ (s : Contents). Opens p [] old c.args.node s.nodes) (sym c.give_spare.ensures.waiting)
    (opens_added p g.K.Covers.prune prune old c.args.node c.add.new.self.nodes
    (λ n there. added_free p.model g.K.Covers.prune g.K.Covers.minimize g.K.Covers.operator c.args.layout.now of law old c.args.node n (subst (λ (ns : List Node). Has ns n) c.in_ok-add.ensures.nodes there))
    (c.add.ensures.covered p.model of law) (c.in_ok-add.ensures.added p.model of law) (c.add.ensures.apart p.model of law))
