use Rattle.visit_laws.proofs.Exact.{one_fault}
use Rattle.visit_laws.proofs.Visits.{fates_found, first_found, visit_faults}
use Rattle.visit_laws.proofs.Batches.{batch_found, fates_exclude}
use Rattle.visit_laws.proofs.Passes.{no_fault_passed}
use Rattle.visit_laws.proofs.law_visits.Goals as goal

pub returns : goal.returns
returns c = record { fates = fates_found; exclude = fates_exclude; batch = batch_found; faults = visit_faults; first = first_found; one = one_fault; none_passed = no_fault_passed }
