use Rattle.std.proofs.Common.{◌∙◌}
use Rattle.cases_search.proofs.Fitting.{taken_fits}
use Rattle.cases_search.proofs.bench.Bench.take_best.Goals as goal

pub returns-clause-taken : goal.returns-clause-taken
returns-clause-taken g c = taken_fits c.self.inside.model.now c.self.inside.store.layout c.take_best.result (c.self.invariant.2 ∙ c.self.invariant.1) c.take_best.ensures.fits
