use Rattle.best_gap.proofs.Worked.{worked_law}
use Rattle.best_gap.proofs.law_best_gap_worked.Goals as goal

pub returns : goal.returns
returns c = worked_law
