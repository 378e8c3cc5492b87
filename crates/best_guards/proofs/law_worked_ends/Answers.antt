use Rattle.best_guards.proofs.Ends.{worked_bests, worked_closed, worked_halted}
use Rattle.best_guards.proofs.law_worked_ends.Goals as goal

pub returns : goal.returns
returns c = record { closed = worked_closed; halted = worked_halted; bests = worked_bests }
