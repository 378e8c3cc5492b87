use Rattle.pass_ledger.proofs.Pairs.{enough}
use Rattle.pass_ledger.proofs.laws.law_enough.Goals as goal

pub returns : goal.returns
returns c = enough
