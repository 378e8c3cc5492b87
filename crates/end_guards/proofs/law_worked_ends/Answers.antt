use Rattle.end_guards.proofs.Ends.{worked_causes, worked_draws, worked_closed, worked_halted}
use Rattle.end_guards.proofs.law_worked_ends.Goals as goal

pub returns : goal.returns
returns c = record { causes = worked_causes; draws = worked_draws; closed = worked_closed; halted = worked_halted }
