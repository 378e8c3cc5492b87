use Rattle.best_calls.proofs.Calls.{called_law}
use Rattle.best_calls.proofs.law_best_called.Goals as goal

pub returns : goal.returns
returns c = called_law
