use Rattle.shard_core.proofs.layers.push_layer.Goals as goal

pub returns-clause-layouts : goal.returns-clause-layouts
returns-clause-layouts g c = c.put_behind.ensures.layouts c.args.layout.now c.requires c.in_ok-nodes.ensures.layout
