use Rattle.std.proofs.Common.{refl, ◌∙◌}
use Rattle.shard_core.specs.Layers.{nodes_of, busy_of}
use Rattle.shard_core.proofs.Rows.{got, set_layouts, set_at, set_off, set_all}
use Rattle.shard_core.proofs.layers.mark_busy.Goals as goal

pub returns-clause-layouts : goal.returns-clause-layouts
returns-clause-layouts g c = set_layouts c.args.layout.now c.open_layers.new.layers.items c.args.place _ c.open_layers.ensures.layouts (c.open_layers.ensures.layouts c.args.place c.index_mut.result.now (got c.open_layers.new.layers.items c.args.place c.index_mut.result.now c.in_ok-open_layers.ensures.long c.index_mut.ensures.value))

pub returns-clause-nodes : goal.returns-clause-nodes
returns-clause-nodes g c = λ d. set_all nodes_of c.open_layers.new.layers.items c.args.place _ c.index_mut.result.now (got c.open_layers.new.layers.items c.args.place c.index_mut.result.now c.in_ok-open_layers.ensures.long c.index_mut.ensures.value) refl d ∙ c.open_layers.ensures.nodes d

pub returns-clause-marked : goal.returns-clause-marked
returns-clause-marked g c = set_at busy_of c.open_layers.new.layers.items c.args.place _ c.in_ok-open_layers.ensures.long

pub returns-clause-others : goal.returns-clause-others
returns-clause-others g c = λ d ne. set_off busy_of c.open_layers.new.layers.items c.args.place _ d ne ∙ c.open_layers.ensures.busy d
