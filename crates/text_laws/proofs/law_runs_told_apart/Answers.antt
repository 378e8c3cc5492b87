use Rattle.text_laws.proofs.BestRuns.{runs_told_apart}
use Rattle.text_laws.proofs.law_runs_told_apart.Goals as goal

pub returns : goal.returns
returns c = runs_told_apart
