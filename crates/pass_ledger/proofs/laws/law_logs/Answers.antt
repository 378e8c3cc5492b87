use Rattle.pass_ledger.proofs.Logs.{logs_law}
use Rattle.pass_ledger.proofs.laws.law_logs.Goals as goal

pub returns : goal.returns
returns c = logs_law
