use Rattle.ledger_guards.proofs.Floors.{worked_floor}
use Rattle.ledger_guards.proofs.law_worked_floor.Goals as goal

pub returns : goal.returns
returns c = worked_floor
