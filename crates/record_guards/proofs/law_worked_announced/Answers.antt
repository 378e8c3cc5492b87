use Rattle.record_guards.proofs.Announced.{worked_announced}
use Rattle.record_guards.proofs.law_worked_announced.Goals as goal

pub returns : goal.returns
returns c = worked_announced
