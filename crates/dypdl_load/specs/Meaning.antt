-- The model that the trees of a domain and a problem mean, or what is refused first.
use Rattle.std.specs.Prelude.{ℕ, Bool, List, [], ◌∷◌, codes, Option, Ok}
use Rattle.dp_base.specs.declared.place.Place.{Place}
use Rattle.dp_base.specs.Results.{◌>>=◌}
use Rattle.dp_model.specs.declared.parts.JoinOp.{JoinOp}
use Rattle.dp_model.specs.declared.parts.Ground.{Ground}
use Rattle.dp_model.specs.declared.parts.Transition.{Transition}
use Rattle.dp_model.specs.declared.parts.ObjectType.{ObjectType}
use Rattle.dp_model.specs.declared.parts.Variable.{Variable}
use Rattle.dp_model.specs.declared.parts.TableData.{TableData}
use Rattle.dp_model.specs.declared.parts.BaseCase.{BaseCase}
use Rattle.dp_model.specs.declared.parts.PlainState.{PlainState}
use Rattle.dp_model.specs.declared.trees.Cond.{Cond}
use Rattle.dp_model.specs.declared.trees.Num.{Num}
use Rattle.dp_model.specs.declared.whole.Model.{Model}
use Rattle.yaml_tree.specs.declared.tree.Tree.{Tree}
use Rattle.yaml_tree.specs.Fields.{tree_place, value_in}
use Rattle.dypdl_nodes.specs.Reads.{Reads, refuse}
use Rattle.dypdl_data.specs.Objects.{objects_of}
use Rattle.dypdl_data.specs.Variables.{variables_of}
use Rattle.dypdl_data.specs.Cells.{tables_of}
use Rattle.dypdl_data.specs.Target.{target_of}
use Rattle.dypdl_rules.specs.Declarations.{Declared}
use Rattle.dypdl_rules.specs.Expressions.{Reading}
use Rattle.dypdl_rules.specs.Moves.{moves_of}
use Rattle.dypdl_rules.specs.BaseCases.{constraints_of, base_cases_of, bounds_of}
use Rattle.dypdl_rules.specs.declared.transitions.Move.{Move}
use Rattle.dypdl_load.specs.Settings.{Settings, settings_of}
use Rattle.dypdl_load.specs.Together.{join_of, grounds_of, texts_of, transitions_of}

-- the value of a key of the domain, and of the problem

abbrev pub in_domain : Settings → (name : List ℕ) → Option Tree
in_domain s name = value_in name s.domain.entries

abbrev pub in_problem : Settings → (name : List ℕ) → Option Tree
in_problem s name = value_in name s.problem.entries

-- The object types with their numbers, the variables, and the tables with their cells. `at` is the problem's place.
unfoldable pub declared_of : (at : Place) → Settings → Reads Declared
declared_of at s =
    objects_of at (in_domain s (codes "objects")) (in_problem s (codes "object_numbers")) >>= λ objects.
    variables_of objects s.domain.needed >>= λ variables.
    tables_of objects variables (in_domain s (codes "tables")) (in_problem s (codes "table_values")) >>= λ tables.
    Ok (record { objects = objects; variables = variables; tables = tables })

-- what both files declare, and the target
pub record Data : Type 0 where
  pub declared : Declared
  pub target : PlainState

-- `at` is the problem's place
unfoldable pub data_of : (at : Place) → Settings → Reads Data
data_of at s =
    declared_of at s >>= λ d. target_of d.objects d.variables s.problem.needed >>= λ target. Ok (record { declared = d; target = target })

-- a model has a base case
abbrev pub some_base : Place → List BaseCase → Reads (List BaseCase)
some_base at [] = refuse 48 at
some_base at (b ∷ bs) = Ok (b ∷ bs)

-- what both files say of states: the constraints, the base cases and the dual bounds
pub record StateRules : Type 0 where
  pub constraints : List Cond
  pub base_cases : List BaseCase
  pub bounds : List Num

-- Of each list the domain's items come before the problem's. `at` is the domain's place.
unfoldable pub state_rules_of : Reading → (at : Place) → Settings → Declared → Reads StateRules
state_rules_of read at s d =
    constraints_of read d (in_domain s (codes "constraints")) (in_problem s (codes "constraints")) >>= λ constraints.
    base_cases_of read d (in_domain s (codes "base_cases")) (in_problem s (codes "base_cases")) >>= λ base_cases.
    bounds_of read d (in_domain s (codes "dual_bounds")) (in_problem s (codes "dual_bounds")) >>= λ bounds.
    some_base at base_cases >>= λ some.
    Ok (record { constraints = constraints; base_cases = base_cases; bounds = bounds })

-- what both files say of states and steps
pub record Rules : Type 0 where
  pub moves : List Move
  pub join : JoinOp
  pub constraints : List Cond
  pub base_cases : List BaseCase
  pub bounds : List Num

-- Of transitions the domain's come before the problem's. `at` is the domain's place.
unfoldable pub rules_of : Reading → (at : Place) → Settings → Declared → Reads Rules
rules_of read at s d =
    moves_of read d (in_domain s (codes "transitions")) (in_problem s (codes "transitions")) >>= λ moves.
    join_of moves >>= λ join.
    state_rules_of read at s d >>= λ c.
    Ok (record { moves = moves; join = join; constraints = c.constraints; base_cases = c.base_cases; bounds = c.bounds })

-- the ground transitions of transitions whose steps have different texts
abbrev pub grounded_of : Declared → List Move → Reads (List Ground)
grounded_of d moves = grounds_of d.objects d.variables moves >>= λ grounds. texts_of moves grounds >>= λ texts. Ok grounds

-- the parts of a model
pub record Parts : Type 0 where
  pub domain : List ℕ
  pub problem : List ℕ
  pub minimize : Bool
  pub join : JoinOp
  pub objects : List ObjectType
  pub variables : List Variable
  pub tables : List TableData
  pub transitions : List Transition
  pub grounds : List Ground
  pub constraints : List Cond
  pub base_cases : List BaseCase
  pub bounds : List Num
  pub target : PlainState

abbrev pub parts_of : Model → Parts
parts_of m = record {
  domain = m.domain;
  problem = m.problem;
  minimize = m.minimize;
  join = m.join;
  objects = m.objects;
  variables = m.variables;
  tables = m.tables;
  transitions = m.transitions;
  grounds = m.dp_ground;
  constraints = m.constraints;
  base_cases = m.base_cases;
  bounds = m.bounds;
  target = m.target;
}

abbrev pub parts_with : Settings → Declared → PlainState → Rules → List Ground → Parts
parts_with s d target r grounds = record {
  domain = s.domain_title;
  problem = s.problem_title;
  minimize = s.minimize;
  join = r.join;
  objects = d.objects;
  variables = d.variables;
  tables = d.tables;
  transitions = transitions_of r.moves;
  grounds = grounds;
  constraints = r.constraints;
  base_cases = r.base_cases;
  bounds = r.bounds;
  target = target;
}

-- What the two trees mean, by the reading of expressions: the settings of both files, what they declare and the target,
-- the rules, and then what is asked of all steps together.
unfoldable pub meaning : Reading → (domain problem : Tree) → Reads Parts
meaning read domain problem =
    settings_of domain problem >>= λ s.
    data_of (tree_place problem) s >>= λ x.
    rules_of read (tree_place domain) s x.declared >>= λ r.
    grounded_of x.declared r.moves >>= λ grounds.
    Ok (parts_with s x.declared x.target r grounds)
