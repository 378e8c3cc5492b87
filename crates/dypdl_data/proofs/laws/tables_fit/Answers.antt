use Rattle.dypdl_data.specs.Laws.{FitTables}
use Rattle.dypdl_data.specs.Cells.{tables_of}
use Rattle.dypdl_data.proofs.Steps.{when_ok}
use Rattle.dypdl_data.proofs.FitTables as fit
use Rattle.dypdl_data.proofs.laws.tables_fit.Goals as goal

pub returns : goal.returns
returns c = λ objects variables declared given tables e. when_ok (FitTables objects variables) (tables_of objects variables declared given) tables e (fit.tables_fit objects variables declared given)
