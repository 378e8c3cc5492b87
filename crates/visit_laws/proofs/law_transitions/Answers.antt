use Rattle.visit_laws.proofs.Transitions.{enabled_faults, enabled_found, may_not_step, may_step_faults, may_step_found, precondition_found}
use Rattle.visit_laws.proofs.law_transitions.Goals as goal

pub returns : goal.returns
returns c = record { enabled = enabled_found; enabled_faults = enabled_faults; may_step = may_step_found; may_not = may_not_step; faults = may_step_faults; met = precondition_found }
