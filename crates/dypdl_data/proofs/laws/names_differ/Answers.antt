use Rattle.std.proofs.Common.{[], ◌++◌}
use Rattle.dypdl_data.specs.Objects.{object_names}
use Rattle.dypdl_data.specs.Variables.{variable_names}
use Rattle.dypdl_data.specs.Cells.{table_names}
use Rattle.dypdl_data.proofs.FitNames.{new_append}
use Rattle.dypdl_data.proofs.laws.names_differ.Goals as goal

pub returns : goal.returns
returns c = λ objects variables tables os vs ts.
    new_append [] (object_names objects ++ variable_names variables) (table_names tables)
    (new_append [] (object_names objects) (variable_names variables) os.different vs.different) ts.different
