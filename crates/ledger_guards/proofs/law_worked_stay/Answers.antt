use Rattle.ledger_guards.proofs.Stay.{worked_stay}
use Rattle.ledger_guards.proofs.law_worked_stay.Goals as goal

pub returns : goal.returns
returns c = worked_stay
