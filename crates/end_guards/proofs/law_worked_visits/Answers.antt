use Rattle.end_guards.proofs.Visits.{worked_finds, worked_offers, pass_of_law}
use Rattle.end_guards.proofs.law_worked_visits.Goals as goal

pub returns : goal.returns
returns c = record { finds = worked_finds; offers = worked_offers; pass = pass_of_law }
