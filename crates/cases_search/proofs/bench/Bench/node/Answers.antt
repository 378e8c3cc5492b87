use Rattle.cases_search.proofs.bench.Bench.node.Goals as goal

pub pack-requires : goal.pack-requires
pack-requires g c = (c.self.inside.model.now, c.self.invariant.1, c.in_ok-state.ensures.unpacked c.self.inside.model.now c.self.invariant.3)
