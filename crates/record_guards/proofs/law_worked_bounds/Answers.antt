use Rattle.record_guards.proofs.Bounds.{worked_bounds}
use Rattle.record_guards.proofs.law_worked_bounds.Goals as goal

pub returns : goal.returns
returns c = worked_bounds
