use Rattle.std.proofs.Common.{List, ◌++◌, map, ap, ◌∙◌, refl, rules, subst}
use Rattle.dp_claims.specs.Enough.{Has}
use Rattle.dom_store.specs.Taking.{with_dropped}
use Rattle.dom_store.specs.Past.{past_node}
use Rattle.pass_ledger.specs.Past.{past_with}
use Rattle.state_layout.specs.declared.node.Node.{Node}
use Rattle.shard_core.proofs.Closes.{closes}
use Rattle.shard_core.proofs.Ranges.{least_floor_wide}
use Rattle.shard_core.proofs.shard.Shard.close.Goals as goal

pub remember-requires-clause-nodes : goal.remember-requires-clause-nodes
remember-requires-clause-nodes g c = λ n h. c.in_ok-best.ensures.fits n (subst (λ (ns : List Node). Has ns n) (c.deref.ensures.value ∙ c.list-2.ensures) h)

pub merged_floor-self-requires-clause-floor : goal.merged_floor-self-requires-clause-floor
merged_floor-self-requires-clause-floor g c = least_floor_wide c.requires.0 c.args.self.now c.requires.1 c.requires.2

pub returns-clause-closed : goal.returns-clause-closed
returns-clause-closed g c = λ p r suited st ready.
    let split = c.in_ok-best.ensures.split p st.belongs.layout_is suited.law suited.covering suited.prune_is in
    closes p c.args.self.now r ready st (with_dropped c.in_ok-best.best split.0) split.2
    c.remember.new.past c.remember.ensures.layout
    (c.in_ok-remember.ensures.nodes ∙ ap (λ (ns : List Node). c.args.self.now.past.nodes ++ map past_node (past_with c.args.self.now.keep ns)) (c.deref.ensures.value ∙ c.list-2.ensures))
    c.take_layer.new.layers c.take_layer.ensures.layouts c.in_ok-best.ensures.nodes c.in_ok-best.ensures.busy
    c.from_vec.result (search rules) c.clear_counts.new.counts c.clear_counts.ensures.zero c.clear_counts.ensures.long c.in_ok-layer.layer c.in_ok-layer.ensures.sum
    (record { kept = c.len.result; dropped = c.in_ok-best.best.dropped; least_floor = c.in_ok-best.best.least_floor }) (search rules) split.1 refl c.in_ok-dropped.dropped c.in_ok-dropped.ensures.sum
    g.L.CostLaw.minimize g.L.CostLaw.operator suited.law c.merged_floor-self.result c.merged_floor-self.ensures
