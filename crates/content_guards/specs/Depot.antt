-- A domain and a problem written out, as trees, with what makes a search in both of them, and the model that they mean.
use Rattle.std.specs.Prelude.{◌≡◌, ℕ, true, false, List, [], ◌∷◌, codes, Some, Ok, pos}
use Rattle.dp_base.specs.declared.place.Place.{Place}
use Rattle.dp_model.specs.declared.parts.JoinOp.TheVariants as joins
use Rattle.dp_model.specs.declared.parts.ObjectType.{ObjectType}
use Rattle.dp_model.specs.declared.parts.Variable.{Variable}
use Rattle.dp_model.specs.declared.parts.VarKind.TheVariants as kinds
use Rattle.dp_model.specs.declared.parts.Preference.TheVariants as preferences
use Rattle.dp_model.specs.declared.parts.PlainValue.TheVariants as values
use Rattle.dp_model.specs.declared.parts.TableData.{TableData}
use Rattle.dp_model.specs.declared.parts.Cells.TheVariants as cells
use Rattle.dp_model.specs.declared.parts.Effect.TheVariants as effects
use Rattle.dp_model.specs.declared.parts.Transition.{Transition}
use Rattle.dp_model.specs.declared.trees.Compare.TheVariants as comparisons
use Rattle.dp_model.specs.declared.trees.NumOp.TheVariants as operations
use Rattle.dp_model.specs.declared.trees.Over.TheVariants.{Object, Members}
use Rattle.dp_model.specs.declared.trees.Num.TheVariants as nums
use Rattle.dp_model.specs.declared.trees.SetEx.TheVariants as sets
use Rattle.dp_model.specs.declared.trees.Cond.{Cond}
use Rattle.dp_model.specs.declared.trees.Cond.TheVariants as conds
use Rattle.yaml_tree.specs.declared.tree.Tree.{Tree}
use Rattle.yaml_tree.specs.declared.tree.Tree.TheVariants as trees
use Rattle.yaml_tree.specs.declared.tree.Pair.{Pair}
use Rattle.dypdl_rules.specs.Expressions.{Reading, IsReading}
use Rattle.dypdl_load.specs.Meaning.{Parts, meaning}
use Rattle.content_laws.specs.Worked.{word, entry}

-- ---- the domain

-- objects: [stop]
abbrev pub depot_objects : Place → Tree
depot_objects at = trees.List at (word at (codes "stop") ∷ [])

-- {name: NAME, type: TYPE, object: stop}, and what is behind
abbrev pub of_stops : Place → (name type : List ℕ) → List Pair → Tree
of_stops at name type more =
    trees.Map at (entry at (codes "name") (word at name) ∷ entry at (codes "type") (word at type) ∷ entry at (codes "object") (word at (codes "stop")) ∷ more)

-- state_variables:
--   - {name: left, type: set, object: stop}
--   - {name: here, type: element, object: stop, preference: greater}
--   - {name: time, type: integer, preference: less}
abbrev pub depot_variables : Place → Tree
depot_variables at =
    trees.List at (
    of_stops at (codes "left") (codes "set") []
    ∷ of_stops at (codes "here") (codes "element") (entry at (codes "preference") (word at (codes "greater")) ∷ [])
    ∷ trees.Map at (entry at (codes "name") (word at (codes "time")) ∷ entry at (codes "type") (word at (codes "integer")) ∷ entry at (codes "preference") (word at (codes "less")) ∷ []) ∷ [])

-- tables:
--   - {name: open, type: bool, args: [stop], default: true}
abbrev pub depot_tables : Place → Tree
depot_tables at =
    trees.List at (
    trees.Map at (
    entry at (codes "name") (word at (codes "open"))
    ∷ entry at (codes "type") (word at (codes "bool"))
    ∷ entry at (codes "args") (trees.List at (word at (codes "stop") ∷ []))
    ∷ entry at (codes "default") (word at (codes "true")) ∷ []) ∷ [])

-- [{name: NAME, object: OVER}]
abbrev pub ranging : Place → (name over : List ℕ) → Tree
ranging at name over = trees.List at (trees.Map at (entry at (codes "name") (word at name) ∷ entry at (codes "object") (word at over) ∷ []) ∷ [])

-- {condition: CONDITION, forall: [{name: j, object: OVER}]}
abbrev pub for_each_entries : Place → (over condition : List ℕ) → List Pair
for_each_entries at over condition = entry at (codes "condition") (word at condition) ∷ entry at (codes "forall") (ranging at (codes "j") over) ∷ []

abbrev pub for_each : Place → (over condition : List ℕ) → Tree
for_each at over condition = trees.Map at (for_each_entries at over condition)

-- {left: (remove k left), here: k}
abbrev pub going : Place → Tree
going at = trees.Map at (entry at (codes "left") (word at (codes "(remove k left)")) ∷ entry at (codes "here") (word at (codes "k")) ∷ [])

-- [(open k), {condition: (<= k j), forall: [{name: j, object: stop}]}]
abbrev pub may_go : Place → Tree
may_go at = trees.List at (word at (codes "(open k)") ∷ for_each at (codes "stop") (codes "(<= k j)") ∷ [])

-- - name: go
--   parameters: [{name: k, object: left}]
--   preconditions: .. (as above)
--   effects: .. (as above)
--   cost: (max cost k)
abbrev pub go_entries : Place → List Pair
go_entries at =
    entry at (codes "name") (word at (codes "go"))
    ∷ entry at (codes "parameters") (ranging at (codes "k") (codes "left"))
    ∷ entry at (codes "preconditions") (may_go at)
    ∷ entry at (codes "effects") (going at)
    ∷ entry at (codes "cost") (word at (codes "(max cost k)")) ∷ []

abbrev pub go_item : Place → Tree
go_item at = trees.Map at (go_entries at)

-- reduce: max
-- transitions: the one above
-- constraints: [(>= time 0)]
-- base_cases: [[(is_empty left)]]
-- dual_bounds: [time]
abbrev pub first_case : Place → Tree
first_case at = trees.List at (word at (codes "(is_empty left)") ∷ [])

abbrev pub depot_domain_entries : Place → List Pair
depot_domain_entries at =
    entry at (codes "objects") (depot_objects at)
    ∷ entry at (codes "state_variables") (depot_variables at)
    ∷ entry at (codes "tables") (depot_tables at)
    ∷ entry at (codes "reduce") (word at (codes "max"))
    ∷ entry at (codes "transitions") (trees.List at (go_item at ∷ []))
    ∷ entry at (codes "constraints") (trees.List at (word at (codes "(>= time 0)") ∷ []))
    ∷ entry at (codes "base_cases") (trees.List at (first_case at ∷ []))
    ∷ entry at (codes "dual_bounds") (trees.List at (word at (codes "time") ∷ [])) ∷ []

abbrev pub depot_domain : Place → Tree
depot_domain at = trees.Map at (depot_domain_entries at)

-- ---- the problem

-- object_numbers: {stop: 2}
abbrev pub depot_numbers : Place → Tree
depot_numbers at = trees.Map at (entry at (codes "stop") (word at (codes "2")) ∷ [])

-- table_values: {open: {1: false}}
abbrev pub depot_values : Place → Tree
depot_values at = trees.Map at (entry at (codes "open") (trees.Map at (entry at (codes "1") (word at (codes "false")) ∷ [])) ∷ [])

-- target: {time: 5, left: [0, 1], here: 1}
abbrev pub depot_target : Place → Tree
depot_target at =
    trees.Map at (
    entry at (codes "time") (word at (codes "5"))
    ∷ entry at (codes "left") (trees.List at (word at (codes "0") ∷ word at (codes "1") ∷ []))
    ∷ entry at (codes "here") (word at (codes "1")) ∷ [])

-- {time: (+ time 1)}
abbrev pub waiting : Place → Tree
waiting at = trees.Map at (entry at (codes "time") (word at (codes "(+ time 1)")) ∷ [])

-- - name: wait
--   effects: .. (as above)
--   cost: (max 7 cost)
--   forced: true
abbrev pub wait_entries : Place → List Pair
wait_entries at =
    entry at (codes "name") (word at (codes "wait"))
    ∷ entry at (codes "effects") (waiting at)
    ∷ entry at (codes "cost") (word at (codes "(max 7 cost)"))
    ∷ entry at (codes "forced") (word at (codes "true")) ∷ []

abbrev pub wait_item : Place → Tree
wait_item at = trees.Map at (wait_entries at)

-- {conditions: [(= here 0)], cost: 3}
abbrev pub second_case_entries : Place → List Pair
second_case_entries at = entry at (codes "conditions") (trees.List at (word at (codes "(= here 0)") ∷ [])) ∷ entry at (codes "cost") (word at (codes "3")) ∷ []

abbrev pub second_case : Place → Tree
second_case at = trees.Map at (second_case_entries at)

-- reduce: min
-- transitions: the one above
-- constraints: [{condition: (open j), forall: [{name: j, object: left}]}]
-- base_cases: the one above
-- dual_bounds: [4]
abbrev pub depot_problem_entries : Place → List Pair
depot_problem_entries at =
    entry at (codes "object_numbers") (depot_numbers at)
    ∷ entry at (codes "table_values") (depot_values at)
    ∷ entry at (codes "target") (depot_target at)
    ∷ entry at (codes "reduce") (word at (codes "min"))
    ∷ entry at (codes "transitions") (trees.List at (wait_item at ∷ []))
    ∷ entry at (codes "constraints") (trees.List at (for_each at (codes "left") (codes "(open j)") ∷ []))
    ∷ entry at (codes "base_cases") (trees.List at (second_case at ∷ []))
    ∷ entry at (codes "dual_bounds") (trees.List at (word at (codes "4") ∷ [])) ∷ []

abbrev pub depot_problem : Place → Tree
depot_problem at = trees.Map at (depot_problem_entries at)

-- ---- the model

abbrev pub stop : ObjectType
stop = record { name = codes "stop"; count = 2 }

abbrev pub three_variables : List Variable
three_variables =
    record { name = codes "left"; kind = kinds.Set 0; preference = preferences.Without }
    ∷ record { name = codes "here"; kind = kinds.Element 0; preference = preferences.Greater }
    ∷ record { name = codes "time"; kind = kinds.Integer; preference = preferences.Less } ∷ []

abbrev pub open_table : TableData
open_table = record { name = codes "open"; args = 0 ∷ []; element = false; cells = cells.Truths (true ∷ false ∷ []) }

-- the only parameter, and the variable of the `forall` where there is one, which comes behind it
abbrev pub is_open : Cond
is_open = conds.Cell 0 (nums.Param 0 ∷ [])

abbrev pub is_least : Cond
is_least = conds.Numbers comparisons.AtMost (nums.Param 0) (nums.Param 1)

abbrev pub go : Transition
go = record {
  name = codes "go";
  params = Members 0 ∷ [];
  forced = false;
  preconditions = is_open ∷ conds.All (Object 0) is_least ∷ [];
  effects = effects.Members 0 (sets.Without (nums.Param 0) (sets.Var 0)) ∷ effects.Number 1 (nums.Param 0) ∷ [];
  weight = Some (nums.Param 0);
}

abbrev pub wait : Transition
wait = record {
  name = codes "wait";
  params = [];
  forced = true;
  preconditions = [];
  effects = effects.Number 2 (nums.Op operations.Plus (nums.Var 2) (nums.Fixed (pos 1))) ∷ [];
  weight = Some (nums.Fixed (pos 7));
}

abbrev pub depot : Parts
depot = record {
  domain = codes "-";
  problem = codes "-";
  minimize = true;
  join = joins.Most;
  objects = stop ∷ [];
  variables = three_variables;
  tables = open_table ∷ [];
  transitions = go ∷ wait ∷ [];
  grounds = record { transition = 0; args = 0 ∷ [] } ∷ record { transition = 0; args = 1 ∷ [] } ∷ record { transition = 1; args = [] } ∷ [];
  constraints = conds.Numbers comparisons.AtLeast (nums.Var 2) (nums.Fixed (pos 0)) ∷ conds.All (Members 0) is_open ∷ [];
  base_cases = record { conditions = conds.Empty (sets.Var 0) ∷ []; cost = nums.Fixed (pos 0) } ∷ record { conditions = conds.Numbers comparisons.Same (nums.Var 1) (nums.Fixed (pos 0)) ∷ []; cost = nums.Fixed (pos 3) } ∷ [];
  bounds = nums.Var 2 ∷ nums.Fixed (pos 4) ∷ [];
  target = record { values = values.Members (0 ∷ 1 ∷ []) ∷ values.Number (pos 1) ∷ values.Number (pos 5) ∷ [] };
}

-- These two texts mean this model, by each reading of expressions, of which there is exactly one. There is no premise beside, so no
-- meaning stands that refuses transitions, constraints, bounds, sets, preferences, parameters or a `forall`, or loses a part of them.
abbrev pub LawDepot : Type 0
LawDepot = (read : Reading) (at : Place) → IsReading read → meaning read (depot_domain at) (depot_problem at) ≡ Ok depot
