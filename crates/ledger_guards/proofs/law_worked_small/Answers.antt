use Rattle.ledger_guards.proofs.Shuttle.{worked_small}
use Rattle.ledger_guards.proofs.law_worked_small.Goals as goal

pub returns : goal.returns
returns c = worked_small
