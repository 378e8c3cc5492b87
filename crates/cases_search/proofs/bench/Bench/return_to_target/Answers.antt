use Rattle.cases_search.proofs.Fitting.{target_for}
use Rattle.cases_search.proofs.bench.Bench.return_to_target.Goals as goal

pub pack-requires : goal.pack-requires
pack-requires g c = target_for c.self.inside.model.now c.self.inside.layout c.target.result.now c.self.invariant.1 c.target.ensures
