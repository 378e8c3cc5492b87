use Rattle.pass_ledger.proofs.WorkedWrong.{wrong}
use Rattle.pass_ledger.proofs.examples.law_worked_wrong.Goals as goal

pub returns : goal.returns
returns c = wrong
