use Rattle.text_laws.proofs.BestRuns.{read_run}
use Rattle.text_laws.proofs.law_read_run.Goals as goal

pub returns : goal.returns
returns c = read_run
