-- What a model keeps of its parts.
use Rattle.std.specs.Prelude.{IsTrue}
use Rattle.dp_model.specs.Typing.{are_trees, are_variables, are_tables, is_state, are_grounded}
use Rattle.dp_model.specs.Limits.{are_few_names, are_few_rules}
use Rattle.dypdl_load.specs.Meaning.{Parts}

-- the parts fit together
pub record Facts (x : Parts) : Type 0 where
  pub kinds : IsTrue (are_variables x.objects x.variables)
  pub cells : IsTrue (are_tables x.objects x.tables)
  pub typed : IsTrue (are_trees x.objects x.variables x.tables x.transitions x.constraints x.base_cases x.bounds)
  pub held : IsTrue (is_state x.objects x.variables x.target)
  pub grounded : IsTrue (are_grounded x.objects x.variables x.transitions x.grounds)
  pub few_names : IsTrue (are_few_names x.objects x.variables x.tables)
  pub few_rules : IsTrue (are_few_rules x.transitions x.grounds x.constraints x.base_cases x.bounds)
