use Rattle.std.proofs.Common.{Option, sym, ap, ◌∙◌}
use Rattle.dom_store.specs.Contents.{with_added}
use Rattle.dom_store.specs.Covering.{covers}
use Rattle.shard_core.specs.Layers.{joined, nodes_of, busy_of}
use Rattle.shard_core.proofs.Rows.{got, on_err, set_at, set_layouts, set_off, set_all, set_merges}
use Rattle.shard_core.proofs.layers.add_at.Goals as goal

pub take_in-requires-clause-layer : goal.take_in-requires-clause-layer
take_in-requires-clause-layer g c = c.requires.layouts c.args.place c.index_mut.result.now (got c.args.layers.now.items c.args.place c.index_mut.result.now c.requires.there c.index_mut.ensures.value)

pub returns-in_err-take_in-clause-layouts : goal.returns-in_err-take_in-clause-layouts
returns-in_err-take_in-clause-layouts g c = set_layouts c.args.layout.now c.args.layers.now.items c.args.place _ c.requires.layouts c.take_in.ensures.fits

pub returns-in_err-take_in-clause-others : goal.returns-in_err-take_in-clause-others
returns-in_err-take_in-clause-others g c = set_off nodes_of c.args.layers.now.items c.args.place _

pub returns-in_err-take_in-clause-busy : goal.returns-in_err-take_in-clause-busy
returns-in_err-take_in-clause-busy g c = set_all busy_of c.args.layers.now.items c.args.place _ c.index_mut.result.now (got c.args.layers.now.items c.args.place c.index_mut.result.now c.requires.there c.index_mut.ensures.value) c.take_in.ensures.busy

pub returns-in_err-take_in-clause-same : goal.returns-in_err-take_in-clause-same
returns-in_err-take_in-clause-same g c =
    on_err c.from_residual.result _ (set_all nodes_of c.args.layers.now.items c.args.place _ c.index_mut.result.now (got c.args.layers.now.items c.args.place c.index_mut.result.now c.requires.there c.index_mut.ensures.value) c.in_err-take_in.ensures.same)

pub returns-clause-layouts : goal.returns-clause-layouts
returns-clause-layouts g c = set_layouts c.args.layout.now c.args.layers.now.items c.args.place _ c.requires.layouts c.take_in.ensures.fits

pub returns-clause-merged : goal.returns-clause-merged
returns-clause-merged g c = λ p of law prune.
    set_merges p c.args.layers.now.items c.args.place _ c.index_mut.result.now c.args.node c.requires.there (got c.args.layers.now.items c.args.place c.index_mut.result.now c.requires.there c.index_mut.ensures.value) (c.in_ok-take_in.ensures.merged p of law prune)

pub returns-clause-others : goal.returns-clause-others
returns-clause-others g c = set_off nodes_of c.args.layers.now.items c.args.place _

pub returns-clause-busy : goal.returns-clause-busy
returns-clause-busy g c = set_all busy_of c.args.layers.now.items c.args.place _ c.index_mut.result.now (got c.args.layers.now.items c.args.place c.index_mut.result.now c.requires.there c.index_mut.ensures.value) c.take_in.ensures.busy

pub returns-clause-in_turn : goal.returns-clause-in_turn
returns-clause-in_turn g c =
    let test = covers g.K.Covers.prune g.K.Covers.minimize g.K.Covers.operator c.args.layout.now in
    let there = got c.args.layers.now.items c.args.place c.index_mut.result.now c.requires.there c.index_mut.ensures.value in
    set_at (joined test) c.args.layers.now.items c.args.place _ c.requires.there ∙ c.in_ok-take_in.ensures.in_turn ∙ ap (λ (o : Option _). with_added test (joined test o) c.args.node) (sym there)
