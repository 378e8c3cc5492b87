use Rattle.visit_laws.proofs.Looks.{bound_met, floor_faults, floor_found}
use Rattle.visit_laws.proofs.law_floors.Goals as goal

pub returns : goal.returns
returns c = record { floor = floor_found; faults = floor_faults; met = bound_met }
