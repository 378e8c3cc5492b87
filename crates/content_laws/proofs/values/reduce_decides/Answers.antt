use Rattle.content_laws.proofs.Reducing.{reduce_law}
use Rattle.content_laws.proofs.values.reduce_decides.Goals as goal

pub returns : goal.returns
returns c = reduce_law
