use Rattle.content_laws.proofs.Working.{quarry_law}
use Rattle.content_laws.proofs.Wording.{ladder_law}
use Rattle.content_laws.proofs.texts.texts_mean_a_model.Goals as goal

pub returns : goal.returns
returns c = record { cells = λ read at. quarry_law at read; condition = λ read at is. ladder_law read at is }
