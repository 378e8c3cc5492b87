use Rattle.pass_ledger.proofs.TourHonest.{honest}
use Rattle.pass_ledger.proofs.WorkedTour.{tour_law, no_better_tour}
use Rattle.pass_ledger.proofs.examples.law_worked_tour.Goals as goal

pub returns : goal.returns
returns c = record { honest = honest; pass = tour_law; best = no_better_tour }
