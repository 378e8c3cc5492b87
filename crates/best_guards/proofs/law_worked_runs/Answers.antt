use Rattle.best_guards.proofs.Runs.{worked_runs, worked_words}
use Rattle.best_guards.proofs.law_worked_runs.Goals as goal

pub returns : goal.returns
returns c = record { runs = worked_runs; words = worked_words }
