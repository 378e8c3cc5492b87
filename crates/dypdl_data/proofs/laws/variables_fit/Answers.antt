use Rattle.dypdl_data.specs.Laws.{FitVariables}
use Rattle.dypdl_data.specs.Variables.{variables_of}
use Rattle.dypdl_data.proofs.Steps.{when_ok}
use Rattle.dypdl_data.proofs.FitVariables as fit
use Rattle.dypdl_data.proofs.laws.variables_fit.Goals as goal

pub returns : goal.returns
returns c = λ objects tree variables e. when_ok (FitVariables objects) (variables_of objects tree) variables e (fit.variables_fit objects tree)
