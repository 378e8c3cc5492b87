use Rattle.std.proofs.Common.{◌≡◌, ◌+◌, ap, sym, ◌∙◌, subst}
use Rattle.std.specs.Prelude.{List, Some, Ok}
use Rattle.dp_claims.specs.Enough.{Has}
use Rattle.state_layout.specs.declared.node.Node.{Node}
use Rattle.dom_store.specs.Contents.{with_nodes}
use Rattle.dom_store.specs.Covering.{covers}
use Rattle.dom_store.specs.Past.{covers_past, not_past}
use Rattle.dom_store.specs.Taking.{with_dropped, AreShared}
use Rattle.dom_store.proofs.Members.{has_filtered}
use Rattle.shard_core.specs.Layers.{joined, joined_at, nodes_of, busy_of, nodes_at, busy_at, AreOf, Splits}
use Rattle.shard_core.specs.declared.layers.Layer.{Layer}
use Rattle.shard_core.proofs.Rows.{got, rest_at, rest_layouts, splits, splits_before, fit_kept, wide}
use Rattle.shard_core.proofs.layers.take_layer.Goals as goal

pub add_pending-requires : goal.add_pending-requires
add_pending-requires g c = c.open_layers.ensures.layouts 0 c.remove-layer.result (got c.open_layers.new.layers.items 0 c.remove-layer.result c.in_ok-open_layers.ensures.long c.remove-layer.ensures.value)

pub drop_past-requires-clause-layout : goal.drop_past-requires-clause-layout
drop_past-requires-clause-layout g c = sym c.add_pending.ensures.fits.0

pub returns-in_err-add_pending-clause-layouts : goal.returns-in_err-add_pending-clause-layouts
returns-in_err-add_pending-clause-layouts g c = subst (λ (xs : List (Layer g.row.K.Denot)). AreOf c.args.layout.now xs) (sym c.remove-layer.ensures.items) (rest_layouts c.args.layout.now c.open_layers.new.layers.items c.open_layers.ensures.layouts)

pub returns-in_err-best-clause-layouts : goal.returns-in_err-best-clause-layouts
returns-in_err-best-clause-layouts g c = subst (λ (xs : List (Layer g.row.K.Denot)). AreOf c.args.layout.now xs) (sym c.remove-layer.ensures.items) (rest_layouts c.args.layout.now c.open_layers.new.layers.items c.open_layers.ensures.layouts)

pub returns-in_err-put_behind-clause-layouts : goal.returns-in_err-put_behind-clause-layouts
returns-in_err-put_behind-clause-layouts g c =
    c.put_behind.ensures.layouts c.args.layout.now (subst (λ (xs : List (Layer g.row.K.Denot)). AreOf c.args.layout.now xs) (sym c.remove-layer.ensures.items) (rest_layouts c.args.layout.now c.open_layers.new.layers.items c.open_layers.ensures.layouts))
    (c.take_kept.ensures.layout ∙ (c.drop_past.ensures.layout ∙ c.add_pending.ensures.fits.0))

pub returns-clause-layouts : goal.returns-clause-layouts
returns-clause-layouts g c =
    c.put_behind.ensures.layouts c.args.layout.now (subst (λ (xs : List (Layer g.row.K.Denot)). AreOf c.args.layout.now xs) (sym c.remove-layer.ensures.items) (rest_layouts c.args.layout.now c.open_layers.new.layers.items c.open_layers.ensures.layouts))
    (c.take_kept.ensures.layout ∙ (c.drop_past.ensures.layout ∙ c.add_pending.ensures.fits.0))

pub returns-clause-split : goal.returns-clause-split
returns-clause-split g c = λ p of law covering prune.
    let e = c.in_ok-best.ensures.shared in
    let taken = with_dropped c.in_ok-best.best e.0 in
    let at = got c.open_layers.new.layers.items 0 c.remove-layer.result c.in_ok-open_layers.ensures.long c.remove-layer.ensures.value in
    let layout = c.add_pending.ensures.fits.0 in
    let nodes = sym (ap nodes_of at) ∙ c.open_layers.ensures.nodes 0 in (
      e.0,
      e.1,
      subst (λ (ns : List Node). Splits p c.args.share c.args.past.now.nodes ns taken) nodes
          (splits_before p c.args.share c.args.past.now.nodes (nodes_of (Some c.remove-layer.result)) c.add_pending.new.layer.nodes.nodes c.add_pending.new.layer.pending.items taken g.K.Covers.prune prune
          c.in_ok-add_pending.ensures.emptied c.add_pending.ensures.from (c.add_pending.ensures.covered p.model of covering)
          (splits p c.args.share c.args.past.now.nodes c.add_pending.new.layer.nodes.nodes c.drop_past.new.self.nodes g.L.CostLaw.minimize g.L.CostLaw.operator g.K.Covers.prune prune law
          (λ n h. (has_filtered _ c.add_pending.new.layer.nodes.nodes n (subst (λ (ns : List Node). Has ns n) c.drop_past.ensures.nodes h)).0)
          (c.drop_past.ensures.left p.model of covering) (c.drop_past.ensures.news p.model of covering) (Ok taken)
          e.2.order e.2.kept e.2.all e.2.floor
          (λ n there. e.3.covered p.model (c.drop_past.ensures.layout ∙ layout ∙ of) covering n there)
          (e.3.apart p.model (c.drop_past.ensures.layout ∙ layout ∙ of) covering))),
    )

pub returns-clause-wide : goal.returns-clause-wide
returns-clause-wide g c = wide g.L.CostLaw.minimize g.L.CostLaw.operator _ (Ok (with_dropped c.in_ok-best.best c.in_ok-best.ensures.shared.0)) c.in_ok-best.ensures.shared.2.floor c.in_ok-best.ensures.shared.3.fits

pub returns-clause-nodes : goal.returns-clause-nodes
returns-clause-nodes g c = λ d.
    c.put_behind.ensures.nodes d
    ∙ (ap (λ (xs : List (Layer g.row.K.Denot)). nodes_at xs d) c.remove-layer.ensures.items
    ∙ (rest_at nodes_of c.open_layers.new.layers.items c.in_ok-open_layers.ensures.long d
    ∙ c.open_layers.ensures.nodes (d + 1)))

pub returns-clause-busy : goal.returns-clause-busy
returns-clause-busy g c = λ d.
    c.put_behind.ensures.busy d
    ∙ (ap (λ (xs : List (Layer g.row.K.Denot)). busy_at xs d) c.remove-layer.ensures.items
    ∙ (rest_at busy_of c.open_layers.new.layers.items c.in_ok-open_layers.ensures.long d
    ∙ c.open_layers.ensures.busy (d + 1)))

pub returns-clause-fits : goal.returns-clause-fits
returns-clause-fits g c = fit_kept c.drop_past.new.self.layout c.args.layout.now (c.drop_past.ensures.layout ∙ c.add_pending.ensures.fits.0) (Ok (with_dropped c.in_ok-best.best c.in_ok-best.ensures.shared.0)) c.in_ok-best.ensures.shared.3.fits

pub returns-clause-in_turn : goal.returns-clause-in_turn
returns-clause-in_turn g c =
    let test = covers g.K.Covers.prune g.K.Covers.minimize g.K.Covers.operator c.args.layout.now in
    let covered = covers_past g.K.Covers.prune g.K.Covers.minimize g.K.Covers.operator c.args.layout.now in
    let e = c.in_ok-best.ensures.shared in
    let at = got c.open_layers.new.layers.items 0 c.remove-layer.result c.in_ok-open_layers.ensures.long c.remove-layer.ensures.value in
    let whole : c.add_pending.new.layer.nodes.nodes ≡ joined_at test c.args.layers.now.items 0 =
    sym (ap (with_nodes test c.add_pending.new.layer.nodes.nodes) c.in_ok-add_pending.ensures.emptied) ∙ (c.add_pending.ensures.in_turn ∙ (sym (ap (joined test) at) ∙ c.open_layers.ensures.joined test 0)) in
    (e.0, e.1, subst (λ (ns : List Node). AreShared g.L.CostLaw.minimize g.L.CostLaw.operator c.args.share ns (with_dropped c.in_ok-best.best e.0)) (c.drop_past.ensures.nodes ∙ ap (not_past covered c.args.past.now.nodes) whole) e.2)
