use Rattle.std.proofs.Common.{◌≡◌, Some, sym, ap, ◌∙◌}
use Rattle.std.specs.List.{slice_get}
use Rattle.std.proofs.lemmas.Option.{slice_get-get_or}
use Rattle.shard_core.proofs.past.add_all.Goals as goal

pub add-requires-clause-node : goal.add-requires-clause-node
add-requires-clause-node g c =
    let at : slice_get c.args.nodes.now c.loop-node.node-index ≡ Some c.node-item.result = slice_get-get_or c.args.nodes.now c.loop-node.node-index c.node-item.result c.loop-node-test.true ∙ ap Some (sym c.node-item.is) in
    c.requires.nodes c.node-item.result (c.loop-node.node-index, at)
