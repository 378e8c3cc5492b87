use Rattle.visit_laws.proofs.BaseCases.{base_cost_met, base_faults, base_found, condition_met, inner_found}
use Rattle.visit_laws.proofs.law_base_cases.Goals as goal

pub returns : goal.returns
returns c = record { base = base_found; inner = inner_found; faults = base_faults; condition_met = condition_met; cost_met = base_cost_met }
