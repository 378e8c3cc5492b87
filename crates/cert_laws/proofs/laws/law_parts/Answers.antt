use Rattle.cert_laws.proofs.InParts.{parts_show, whole_shows}
use Rattle.cert_laws.proofs.laws.law_parts.Goals as goal

pub returns : goal.returns
returns c = record { parts = parts_show; whole = whole_shows }
