use Rattle.dp_claims.proofs.Plain.{plain}
use Rattle.dp_claims.proofs.law_plain.Goals as goal

pub returns : goal.returns
returns c = plain
