use Rattle.dp_eval.proofs.Fits.{numbers_fit, sets_typed, sets_fit}
use Rattle.dp_eval.proofs.laws.values_fit.Goals as goal

pub returns-clause-numbers : goal.returns-clause-numbers
returns-clause-numbers c = numbers_fit

pub returns-clause-types : goal.returns-clause-types
returns-clause-types c = sets_typed

pub returns-clause-sets : goal.returns-clause-sets
returns-clause-sets c = sets_fit
