use Rattle.std.proofs.Common.{◌≡◌, length, IfOk}
use Rattle.dypdl_nodes.specs.Shapes.{items_of}
use Rattle.dypdl_data.specs.Variables.{variables_of}
use Rattle.dypdl_data.proofs.Steps.{when_ok}
use Rattle.dypdl_data.proofs.FitVariables as fit
use Rattle.dypdl_data.proofs.laws.each_variable.Goals as goal

pub returns : goal.returns
returns c = λ objects tree variables e. when_ok (λ vs. IfOk (items_of tree) (λ items. length vs ≡ length items)) (variables_of objects tree) variables e (fit.each_variable objects tree)
