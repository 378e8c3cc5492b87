use Rattle.text_laws.proofs.Telling.{told_apart}
use Rattle.text_laws.proofs.law_told_apart.Goals as goal

pub returns : goal.returns
returns c = told_apart
