use Rattle.dp_claims.proofs.Covering.{reflexive, transitive}
use Rattle.dp_claims.proofs.law_covering.Goals as goal

pub returns : goal.returns
returns c = record { reflexive = reflexive; transitive = transitive }
