use Rattle.pass_ledger.proofs.WorkedRun.{two_shards}
use Rattle.pass_ledger.proofs.examples.law_worked_run.Goals as goal

pub returns : goal.returns
returns c = two_shards
