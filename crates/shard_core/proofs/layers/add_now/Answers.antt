use Rattle.std.proofs.Common.{sym, ap, subst, ◌∙◌}
use Rattle.std.specs.Prelude.{List, ◌++◌}
use Rattle.dp_claims.specs.Enough.{Has}
use Rattle.state_layout.specs.declared.node.Node.{Node}
use Rattle.dom_store.specs.Covering.{covers}
use Rattle.dom_store.specs.Contents.{is_covered}
use Rattle.shard_core.proofs.Merges.{merges, merges_stored, added_only}
use Rattle.shard_core.proofs.Rows.{joined_now, on_err}
use Rattle.shard_core.proofs.layers.add_now.Goals as goal

pub add-requires-clause-layout : goal.add-requires-clause-layout
add-requires-clause-layout g c = sym c.requires.layer.0

pub returns-in_err-add-clause-fits : goal.returns-in_err-add-clause-fits
returns-in_err-add-clause-fits g c = (c.add.ensures.layout ∙ c.requires.layer.0, c.requires.layer.1)

pub returns-in_err-add-clause-same : goal.returns-in_err-add-clause-same
returns-in_err-add-clause-same g c = on_err c.from_residual.result _ (ap (λ (ns : List Node). ns ++ c.args.layer.now.pending.items) c.in_err-add.ensures.err.1)

pub returns-clause-fits : goal.returns-clause-fits
returns-clause-fits g c = (c.add.ensures.layout ∙ c.requires.layer.0, c.requires.layer.1)

pub returns-clause-merged : goal.returns-clause-merged
returns-clause-merged g c = λ p of law prune.
    let old = c.args.layer.now.nodes.nodes in
    let test = covers g.K.Covers.prune g.K.Covers.minimize g.K.Covers.operator c.args.layout.now in
    merges_stored p c.args.layer.now.pending.items old c.args.node c.add.new.self.nodes
    (merges p g.K.Covers.prune prune old c.args.node c.add.new.self.nodes
    (λ n there. added_only test old c.args.node (is_covered test old c.args.node) n (subst (λ (ns : List Node). Has ns n) c.in_ok-add.ensures.nodes there))
    (c.add.ensures.covered p.model of law) (c.in_ok-add.ensures.added p.model of law))

pub returns-clause-in_turn : goal.returns-clause-in_turn
returns-clause-in_turn g c =
    joined_now (covers g.K.Covers.prune g.K.Covers.minimize g.K.Covers.operator c.args.layout.now) c.args.layer.now.nodes.nodes c.args.layer.now.pending.items c.add.new.self.nodes c.args.node c.requires.none c.in_ok-add.ensures.nodes
