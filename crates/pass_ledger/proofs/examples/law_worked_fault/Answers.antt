use Rattle.pass_ledger.proofs.WorkedFault.{worked_fault}
use Rattle.pass_ledger.proofs.examples.law_worked_fault.Goals as goal

pub returns : goal.returns
returns c = worked_fault
