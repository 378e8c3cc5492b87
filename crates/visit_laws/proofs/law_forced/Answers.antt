use Rattle.visit_laws.proofs.Transitions.{all_considered, forced_alone, forced_faults, forced_found, none_forced}
use Rattle.visit_laws.proofs.law_forced.Goals as goal

pub returns : goal.returns
returns c = record { found = forced_found; alone = forced_alone; none = none_forced; others = all_considered; faults = forced_faults }
