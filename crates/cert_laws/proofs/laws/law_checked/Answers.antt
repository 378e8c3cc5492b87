use Rattle.cert_laws.proofs.No.{no_law}
use Rattle.cert_laws.proofs.Yes.{yes_law}
use Rattle.cert_laws.proofs.laws.law_checked.Goals as goal

pub returns : goal.returns
returns c = record { yes = yes_law; no = no_law }
