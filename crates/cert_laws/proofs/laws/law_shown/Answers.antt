use Rattle.cert_laws.proofs.Backwards.{law}
use Rattle.cert_laws.proofs.laws.law_shown.Goals as goal

pub returns : goal.returns
returns c = law
