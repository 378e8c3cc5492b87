use Rattle.visit_laws.proofs.Constraints.{allowed_found, constraint_faults, constraint_met, forbidden_found}
use Rattle.visit_laws.proofs.law_constraints.Goals as goal

pub returns : goal.returns
returns c = record { allowed = allowed_found; forbidden = forbidden_found; faults = constraint_faults; met = constraint_met }
