use Rattle.visit_laws.proofs.Transitions.{before_faults, before_found, before_none}
use Rattle.visit_laws.proofs.law_before.Goals as goal

pub returns : goal.returns
returns c = record { found = before_found; none = before_none; faults = before_faults }
