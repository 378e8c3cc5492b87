use Rattle.cert_laws.proofs.PartChecks.{first_of_parts, part_no_fails, part_yes_shows, whole_checks}
use Rattle.cert_laws.proofs.laws.law_checked_in_part.Goals as goal

pub returns : goal.returns
returns c = record { yes = part_yes_shows; no = part_no_fails; first = first_of_parts; whole = whole_checks }
