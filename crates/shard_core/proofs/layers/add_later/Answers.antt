use Rattle.std.proofs.Common.{ap, ◌∙◌}
use Rattle.std.specs.Prelude.{List, Some, ◌++◌}
use Rattle.state_layout.specs.declared.node.Node.{Node}
use Rattle.dom_store.specs.Covering.{covers}
use Rattle.shard_core.specs.Layers.{nodes_of}
use Rattle.shard_core.proofs.Rows.{joined_later, on_err, merges_among, fit_more, fit_same}
use Rattle.shard_core.proofs.layers.add_later.Goals as goal

pub add_enough-requires : goal.add_enough-requires
add_enough-requires g c = (c.requires.layer.0, fit_more c.args.layout.now c.args.layer.now.pending.items c.args.node c.push_waiting.new.pending.items c.in_ok-push_waiting.ensures.items c.requires.layer.1 c.requires.node)

pub returns-in_err-push_waiting-clause-fits : goal.returns-in_err-push_waiting-clause-fits
returns-in_err-push_waiting-clause-fits g c = (c.requires.layer.0, fit_same c.args.layout.now c.args.layer.now.pending.items c.push_waiting.new.pending.items c.in_err-push_waiting.ensures.same c.requires.layer.1)

pub returns-in_err-push_waiting-clause-same : goal.returns-in_err-push_waiting-clause-same
returns-in_err-push_waiting-clause-same g c = on_err c.from_residual.result _ (ap (λ (ns : List Node). c.args.layer.now.nodes.nodes ++ ns) c.in_err-push_waiting.ensures.same)

pub returns-clause-merged : goal.returns-clause-merged
returns-clause-merged g c = λ p of law prune.
    merges_among p g.K.Covers.prune prune c.args.layer.now.nodes.nodes c.args.layer.now.pending.items c.args.node c.push_waiting.new.pending.items (nodes_of (Some c.add_enough.new.layer)) c.in_ok-push_waiting.ensures.items
    c.add_enough.ensures.from (c.add_enough.ensures.covered p.model of law)

pub returns-clause-in_turn : goal.returns-clause-in_turn
returns-clause-in_turn g c =
    let test = covers g.K.Covers.prune g.K.Covers.minimize g.K.Covers.operator c.args.layout.now in
    c.add_enough.ensures.in_turn ∙ joined_later test c.args.layer.now.nodes.nodes c.args.layer.now.pending.items c.push_waiting.new.pending.items c.args.node c.in_ok-push_waiting.ensures.items
