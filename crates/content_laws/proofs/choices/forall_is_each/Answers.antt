use Rattle.content_laws.proofs.Choosing.{forall_law}
use Rattle.content_laws.proofs.choices.forall_is_each.Goals as goal

pub returns : goal.returns
returns c = forall_law
