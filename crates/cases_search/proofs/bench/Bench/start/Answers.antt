use Rattle.std.proofs.Common.{subst, IfOk}
use Rattle.dp_model.specs.declared.whole.Model.{Model}
use Rattle.successors.specs.Starts.{StartFits}
use Rattle.cases_search.proofs.bench.Bench.start.Goals as goal

pub returns-clause-fits : goal.returns-clause-fits
returns-clause-fits g c = subst (λ (m : Model). IfOk c.start.result (StartFits m)) c.self.invariant.0 c.start.ensures.fits
