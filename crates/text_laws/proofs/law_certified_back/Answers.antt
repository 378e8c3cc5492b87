use Rattle.text_laws.proofs.CertifiedBack.{certified_back}
use Rattle.text_laws.proofs.law_certified_back.Goals as goal

pub returns : goal.returns
returns c = certified_back
