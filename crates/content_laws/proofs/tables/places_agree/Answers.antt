use Rattle.content_laws.proofs.Placing.{place_law}
use Rattle.content_laws.proofs.tables.places_agree.Goals as goal

pub returns : goal.returns
returns c = place_law
