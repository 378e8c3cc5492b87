use Rattle.visit_laws.proofs.Steps.{cost_faults, cost_found, effect_faults, effect_met, joined_met, next_found, step_found, step_made, weight_met}
use Rattle.visit_laws.proofs.law_steps.Goals as goal

pub returns : goal.returns
returns c = record {
  cost = cost_found;
  next = next_found;
  step = step_found;
  made = step_made;
  cost_faults = cost_faults;
  effect_faults = effect_faults;
  weight_met = weight_met;
  cost_met = joined_met;
  effect_met = effect_met;
}
