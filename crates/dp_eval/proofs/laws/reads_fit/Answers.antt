use Rattle.dp_eval.proofs.ReadFits.{arguments_fit, ranges_fit, numbers_held, sets_held, cells_held, sums_held}
use Rattle.dp_eval.proofs.laws.reads_fit.Goals as goal

pub returns-clause-arguments : goal.returns-clause-arguments
returns-clause-arguments c = arguments_fit

pub returns-clause-ranges : goal.returns-clause-ranges
returns-clause-ranges c = ranges_fit

pub returns-clause-number_variables : goal.returns-clause-number_variables
returns-clause-number_variables c = numbers_held

pub returns-clause-set_variables : goal.returns-clause-set_variables
returns-clause-set_variables c = sets_held

pub returns-clause-cells : goal.returns-clause-cells
returns-clause-cells c = cells_held

pub returns-clause-sums : goal.returns-clause-sums
returns-clause-sums c = sums_held
