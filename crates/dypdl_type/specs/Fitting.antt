-- What a cost expression needs to be well typed.
use Rattle.std.specs.Prelude.{ℕ, Bool, true, List}
use Rattle.dp_model.specs.Typing.{is_num}
use Rattle.dp_model.specs.declared.parts.ObjectType.{ObjectType}
use Rattle.dp_model.specs.declared.parts.Variable.{Variable}
use Rattle.dp_model.specs.declared.parts.TableData.{TableData}
use Rattle.dypdl_type.specs.declared.cost.CostForm.{CostForm}
use Rattle.dypdl_type.specs.declared.cost.CostForm.TheVariants.{Bare, Joined}

-- the weight is well typed, with this many parameters in force
abbrev pub is_cost_form : List ObjectType → List Variable → List TableData → CostForm → (given : ℕ) → Bool
is_cost_form os vs ts Bare given = true
is_cost_form os vs ts (Joined op n) given = is_num os vs ts n given
