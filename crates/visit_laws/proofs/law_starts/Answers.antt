use Rattle.visit_laws.proofs.Starts.{start_base, start_faults, start_forbidden, start_open}
use Rattle.visit_laws.proofs.law_starts.Goals as goal

pub returns : goal.returns
returns c = record { forbidden = start_forbidden; base = start_base; open_inner = start_open; faults = start_faults }
