use Rattle.ledger_guards.proofs.Shares.{worked_shares}
use Rattle.ledger_guards.proofs.law_worked_shares.Goals as goal

pub returns : goal.returns
returns c = worked_shares
