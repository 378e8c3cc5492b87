use Rattle.pass_ledger.proofs.WorkedEnough.{worked_enough}
use Rattle.pass_ledger.proofs.examples.law_worked_enough.Goals as goal

pub returns : goal.returns
returns c = worked_enough
