use Rattle.std.proofs.Common.{subst, IfOk}
use Rattle.successors.specs.Answers.{Answers}
use Rattle.successors.specs.Searches.{Search}
use Rattle.successors.specs.Starts.{StartFits}
use Rattle.successors.specs.Starts as begins
use Rattle.solve_start.proofs.starts.start_by.Goals as goal

pub returns-clause-start : goal.returns-clause-start
returns-clause-start g c = subst (λ (s : Search). Answers c.start.result (begins.start_at s.model s.prune)) c.in_ok-expander.ensures c.start.ensures.start

pub returns-clause-fits : goal.returns-clause-fits
returns-clause-fits g c = subst (λ (s : Search). IfOk c.start.result (StartFits s.model)) c.in_ok-expander.ensures c.start.ensures.fits
