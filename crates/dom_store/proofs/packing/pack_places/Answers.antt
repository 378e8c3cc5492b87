use Rattle.std.proofs.Common.{◌≡◌, List, Option, length, arith, ap, ◌∙◌}
use Rattle.state_layout.specs.declared.node.Node.{Node}
use Rattle.dom_store.specs.Chains.{row_in}
use Rattle.dom_store.specs.Places.{nodes_of}
use Rattle.dom_store.proofs.Moving.{cut_nodes, cut_length, packed_kept, none_stepped}
use Rattle.dom_store.proofs.packing.pack_places.Goals as goal

pub returns-clause-kept : goal.returns-clause-kept
returns-clause-kept g c = λ layout count h.
    let m = c.move_together-count in
    packed_kept g.K.Covers.prune g.K.Covers.minimize g.K.Covers.operator layout c.args.chains.now.heads.items m.new.chains.heads.items c.keep_first.new.self.heads.items c.args.chains.now.links.items m.new.chains.links.items c.keep_first.new.self.links.items
    c.args.places.now.items m.new.places.items c.truncate.new.self.items c.args.glances.now.items m.new.glances.items c.truncate-2.new.self.items count m.result
    m.ensures.from m.ensures.nodes c.truncate.ensures.items c.truncate-2.ensures.items m.ensures.behind
    (ap length c.truncate.ensures.items ∙ cut_length m.new.places.items m.result m.ensures.within)
    (ap length c.truncate-2.ensures.items ∙ cut_length m.new.glances.items m.result (omega (arith, m.ensures.within, m.ensures.level)))
    c.keep_first.ensures.len m.ensures.buckets c.keep_first.ensures.rows h

pub keep_first-requires : goal.keep_first-requires
keep_first-requires g c = omega (arith, c.move_together-count.ensures.within, c.move_together-count.ensures.linked)

pub returns-clause-steps : goal.returns-clause-steps
returns-clause-steps g c = λ layout.
    none_stepped g.K.Covers.prune g.K.Covers.minimize g.K.Covers.operator layout (row_in c.clear.new.self.chains.heads.items c.clear.new.self.chains.links.items) (length c.clear.new.self.chains.links.items) c.clear.new.self.stairs.items c.truncate.new.self.items c.clear.ensures.index c.clear.ensures.off

pub refill-requires : goal.refill-requires
refill-requires g c =
    let m = c.move_together-count in
    let all : nodes_of c.truncate.new.self.items ≡ nodes_of c.args.places.now.items = ap nodes_of c.truncate.ensures.items ∙ cut_nodes m.new.places.items m.result m.ensures.behind ∙ m.ensures.nodes in
    omega (arith, c.requires.room, ap length all, ap (λ (ps : List (Option Node)). length (nodes_of ps)) c.deref.ensures.value)

pub returns-clause-queue : goal.returns-clause-queue
returns-clause-queue g c = rw c.deref.ensures.value at c.refill.ensures

pub returns-clause-nodes : goal.returns-clause-nodes
returns-clause-nodes g c =
    let m = c.move_together-count in
    ap nodes_of c.truncate.ensures.items ∙ cut_nodes m.new.places.items m.result m.ensures.behind ∙ m.ensures.nodes
