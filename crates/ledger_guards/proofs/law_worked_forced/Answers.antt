use Rattle.ledger_guards.proofs.Forced.{worked_forced}
use Rattle.ledger_guards.proofs.law_worked_forced.Goals as goal

pub returns : goal.returns
returns c = worked_forced
