use Rattle.pass_ledger.proofs.Backwards.{law}
use Rattle.pass_ledger.proofs.laws.law_closed.Goals as goal

pub returns : goal.returns
returns c = law
