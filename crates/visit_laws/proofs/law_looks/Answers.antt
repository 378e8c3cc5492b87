use Rattle.visit_laws.proofs.Looks.{look_faults, looked_base, looked_forbidden, looked_open}
use Rattle.visit_laws.proofs.law_looks.Goals as goal

pub returns : goal.returns
returns c = record { forbidden = looked_forbidden; base = looked_base; open_inner = looked_open; faults = look_faults }
