use Rattle.std.proofs.Common.{◌≡◌, ◌<◌, Option, Some, set, length, arith, refl, sym, ap, ◌∙◌}
use Rattle.std.specs.List.{slice_get}
use Rattle.std.proofs.lemmas.Option.{slice_get-get_or}
use Rattle.state_layout.specs.declared.node.Node.{Node}
use Rattle.dom_store.specs.Places.{nodes_of}
use Rattle.dom_store.proofs.Indexing.{read_at}
use Rattle.dom_store.proofs.Moving.{moved_nodes, moved_empty, moved_from}
use Rattle.dom_store.proofs.packing.move_node.Goals as goal

pub returns-clause-nodes : goal.returns-clause-nodes
returns-clause-nodes c =
    let items = c.args.places.now.items in
    let there : slice_get items c.args.from ≡ Some c.take-node.result = slice_get-get_or items c.args.from c.index_mut.result.now c.requires.within ∙ ap Some (sym c.index_mut.ensures.value ∙ sym c.take-node.ensures.value) in
    ap (λ (o : Option Node). nodes_of (set (set items c.args.from o) c.args.to c.take-node.result)) c.take-node.ensures.after
    ∙ moved_nodes items c.args.to c.args.from c.take-node.result c.requires.low c.requires.within there c.requires.empty

pub returns-clause-from : goal.returns-clause-from
returns-clause-from c =
    let items = c.args.places.now.items in
    let there : slice_get items c.args.from ≡ Some c.take-node.result = slice_get-get_or items c.args.from c.index_mut.result.now c.requires.within ∙ ap Some (sym c.index_mut.ensures.value ∙ sym c.take-node.ensures.value) in
    let to : c.args.to < length items = omega (arith, c.requires.low, c.requires.within) in
    let glance : slice_get c.args.glances.now.items c.args.from ≡ Some c.index.result.now = read_at c.args.glances.now.items c.args.from c.index.result.now (omega (arith, c.requires.level, c.requires.within)) c.index.ensures in
    moved_from items _ c.args.glances.now.items _ c.args.chains.now.links.items c.copy_key.new.self.links.items c.args.to c.args.from c.take-node.result c.index.result.now
    (ap (λ (o : Option Node). set (set items c.args.from o) c.args.to c.take-node.result) c.take-node.ensures.after) to c.requires.within there c.requires.level glance refl c.copy_key.ensures.key c.copy_key.ensures.others

pub returns-clause-empty : goal.returns-clause-empty
returns-clause-empty c =
    let items = c.args.places.now.items in
    let there : slice_get items c.args.from ≡ Some c.take-node.result = slice_get-get_or items c.args.from c.index_mut.result.now c.requires.within ∙ ap Some (sym c.index_mut.ensures.value ∙ sym c.take-node.ensures.value) in
    let to : c.args.to < length items = omega (arith, c.requires.low, c.requires.within) in
    moved_empty items _ c.args.to c.args.from c.take-node.result (ap (λ (o : Option Node). set (set items c.args.from o) c.args.to c.take-node.result) c.take-node.ensures.after) to c.requires.within there c.requires.empty
