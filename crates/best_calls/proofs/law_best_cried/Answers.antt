use Rattle.best_calls.proofs.Calls.{cried_law, left_law}
use Rattle.best_calls.proofs.law_best_cried.Goals as goal

pub returns : goal.returns
returns c = record { cried = cried_law; left = left_law }
