use Rattle.std.proofs.Common.{arith}
use Rattle.dom_store.proofs.store.DomStore.pack.Goals as goal

pub pack_places-requires-clause-level : goal.pack_places-requires-clause-level
pack_places-requires-clause-level g c = c.self.invariant.0.level

pub pack_places-requires-clause-linked : goal.pack_places-requires-clause-linked
pack_places-requires-clause-linked g c = c.self.invariant.0.linked

pub pack_places-requires-clause-index : goal.pack_places-requires-clause-index
pack_places-requires-clause-index g c = c.self.invariant.1.indexed

pub pack_places-requires-clause-room : goal.pack_places-requires-clause-room
pack_places-requires-clause-room g c = omega (arith, c.if-capacity-self.false, c.capacity.ensures, c.self.invariant.0.counted)

pub invariant_of-self : goal.invariant_of-self
invariant_of-self g c = (
  c.pack_places.ensures.kept c.self.inside.layout c.self.inside.count c.self.invariant.0,
  c.pack_places.ensures.steps c.self.inside.layout,
  c.pack_places.ensures.queue,
)
