-- Texts written out, as trees, and the models that they mean.
use Rattle.std.specs.Prelude.{◌≡◌, ℕ, true, false, List, [], ◌∷◌, codes, Ok, pos}
use Rattle.dp_base.specs.declared.place.Place.{Place}
use Rattle.dp_model.specs.declared.parts.JoinOp.TheVariants.{Plus}
use Rattle.dp_model.specs.declared.parts.VarKind.TheVariants as kinds
use Rattle.dp_model.specs.declared.parts.Preference.TheVariants.{Without}
use Rattle.dp_model.specs.declared.parts.PlainValue.TheVariants as values
use Rattle.dp_model.specs.declared.parts.Cells.TheVariants as cells
use Rattle.dp_model.specs.declared.trees.Compare.TheVariants.{Same}
use Rattle.dp_model.specs.declared.trees.Num.TheVariants as nums
use Rattle.dp_model.specs.declared.trees.Cond.TheVariants as conds
use Rattle.yaml_tree.specs.declared.tree.Tree.{Tree}
use Rattle.yaml_tree.specs.declared.tree.Tree.TheVariants as trees
use Rattle.yaml_tree.specs.declared.tree.Pair.{Pair}
use Rattle.dypdl_rules.specs.Expressions.{Reading, IsReading}
use Rattle.dypdl_load.specs.Meaning.{Parts, meaning}

-- nodes that stand anywhere

abbrev pub word : Place → List ℕ → Tree
word at text = trees.Scalar at text

abbrev pub entry : Place → (key : List ℕ) → Tree → Pair
entry at key value = record { key = trees.Scalar at key; value = value }

-- ---- data

-- objects: [stone]
abbrev pub quarry_objects : Place → Tree
quarry_objects at = trees.List at (word at (codes "stone") ∷ [])

-- state_variables:
--   - {name: x, type: integer}
abbrev pub quarry_variables : Place → Tree
quarry_variables at = trees.List at (trees.Map at (entry at (codes "name") (word at (codes "x")) ∷ entry at (codes "type") (word at (codes "integer")) ∷ []) ∷ [])

-- tables:
--   - {name: weight, type: integer, args: [stone], default: 7}
abbrev pub quarry_tables : Place → Tree
quarry_tables at =
    trees.List at (
    trees.Map at (
    entry at (codes "name") (word at (codes "weight"))
    ∷ entry at (codes "type") (word at (codes "integer"))
    ∷ entry at (codes "args") (trees.List at (word at (codes "stone") ∷ []))
    ∷ entry at (codes "default") (word at (codes "7")) ∷ []) ∷ [])

-- reduce: max
-- base_cases:
--   - []
abbrev pub quarry_base_cases : Place → Tree
quarry_base_cases at = trees.List at (trees.List at [] ∷ [])

abbrev pub quarry_domain_entries : Place → List Pair
quarry_domain_entries at =
    entry at (codes "objects") (quarry_objects at)
    ∷ entry at (codes "state_variables") (quarry_variables at)
    ∷ entry at (codes "tables") (quarry_tables at)
    ∷ entry at (codes "reduce") (word at (codes "max"))
    ∷ entry at (codes "base_cases") (quarry_base_cases at) ∷ []

abbrev pub quarry_domain : Place → Tree
quarry_domain at = trees.Map at (quarry_domain_entries at)

-- object_numbers: {stone: 3}
abbrev pub quarry_numbers : Place → Tree
quarry_numbers at = trees.Map at (entry at (codes "stone") (word at (codes "3")) ∷ [])

-- table_values: {weight: {1: 5}}
abbrev pub quarry_values : Place → Tree
quarry_values at = trees.Map at (entry at (codes "weight") (trees.Map at (entry at (codes "1") (word at (codes "5")) ∷ [])) ∷ [])

-- target: {x: 4}
abbrev pub quarry_target : Place → Tree
quarry_target at = trees.Map at (entry at (codes "x") (word at (codes "4")) ∷ [])

abbrev pub quarry_problem_entries : Place → List Pair
quarry_problem_entries at =
    entry at (codes "object_numbers") (quarry_numbers at)
    ∷ entry at (codes "table_values") (quarry_values at)
    ∷ entry at (codes "target") (quarry_target at) ∷ []

abbrev pub quarry_problem : Place → Tree
quarry_problem at = trees.Map at (quarry_problem_entries at)

abbrev pub quarry : Parts
quarry = record {
  domain = codes "-";
  problem = codes "-";
  minimize = false;
  join = Plus;
  objects = record { name = codes "stone"; count = 3 } ∷ [];
  variables = record { name = codes "x"; kind = kinds.Integer; preference = Without } ∷ [];
  tables = record { name = codes "weight"; args = 0 ∷ []; element = false; cells = cells.Numbers (pos 7 ∷ pos 5 ∷ pos 7 ∷ []) } ∷ [];
  transitions = [];
  grounds = [];
  constraints = [];
  base_cases = record { conditions = []; cost = nums.Fixed (pos 0) } ∷ [];
  bounds = [];
  target = record { values = values.Number (pos 4) ∷ [] };
}

-- These two texts mean this model. There is no premise, so no meaning that refuses every text stands.
abbrev pub LawQuarry : Type 0
LawQuarry = (read : Reading) (at : Place) → meaning read (quarry_domain at) (quarry_problem at) ≡ Ok quarry

-- ---- a condition

-- state_variables:
--   - {name: x, type: integer}
-- base_cases:
--   - [(= x 3)]
abbrev pub ladder_condition : List ℕ
ladder_condition = codes "(= x 3)"

abbrev pub ladder_base_cases : Place → Tree
ladder_base_cases at = trees.List at (trees.List at (word at ladder_condition ∷ []) ∷ [])

abbrev pub ladder_domain_entries : Place → List Pair
ladder_domain_entries at = entry at (codes "state_variables") (quarry_variables at) ∷ entry at (codes "base_cases") (ladder_base_cases at) ∷ []

abbrev pub ladder_domain : Place → Tree
ladder_domain at = trees.Map at (ladder_domain_entries at)

-- target: {x: 4}
abbrev pub ladder_problem_entries : Place → List Pair
ladder_problem_entries at = entry at (codes "target") (quarry_target at) ∷ []

abbrev pub ladder_problem : Place → Tree
ladder_problem at = trees.Map at (ladder_problem_entries at)

abbrev pub ladder : Parts
ladder = record {
  domain = codes "-";
  problem = codes "-";
  minimize = true;
  join = Plus;
  objects = [];
  variables = record { name = codes "x"; kind = kinds.Integer; preference = Without } ∷ [];
  tables = [];
  transitions = [];
  grounds = [];
  constraints = [];
  base_cases = record { conditions = conds.Numbers Same (nums.Var 0) (nums.Fixed (pos 3)) ∷ []; cost = nums.Fixed (pos 0) } ∷ [];
  bounds = [];
  target = record { values = values.Number (pos 4) ∷ [] };
}

-- These two texts mean this model, by each reading of expressions, of which there is exactly one.
abbrev pub LawLadder : Type 0
LawLadder = (read : Reading) (at : Place) → IsReading read → meaning read (ladder_domain at) (ladder_problem at) ≡ Ok ladder
