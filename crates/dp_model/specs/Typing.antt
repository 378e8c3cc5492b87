-- When an expression is well typed over a model's object types, variables and tables, as a test that is a fold
-- over the trees; and when variables, tables, a state and the values of parameters fit them. All are tests, and none
-- names the model, so that the model can keep these facts of its own trees.
use Rattle.std.specs.Prelude.{ℕ, suc, ◌*◌, ◌^◌, Bool, true, false, not, ◌&&◌, ◌||◌, nat_lt, ◌==◌, List, [], ◌∷◌, length, slice_get, Option, Some, None, option_and_then, unwrap_or, ℤ, pos, neg_ℤ, int_le, int_lt}
use Rattle.std.specs.List.{list_all, list_any}
use Rattle.dp_model.specs.Costs.{greatest}
use Rattle.dp_model.specs.declared.trees.Over.{Over}
use Rattle.dp_model.specs.declared.trees.Over.TheVariants.{Object, Members}
use Rattle.dp_model.specs.declared.trees.Arg as args
use Rattle.dp_model.specs.declared.trees.Num as nums
use Rattle.dp_model.specs.declared.trees.SetEx as sets
use Rattle.dp_model.specs.declared.trees.Cond as conds
use Rattle.dp_model.specs.declared.parts.ObjectType.{ObjectType}
use Rattle.dp_model.specs.declared.parts.Variable.{Variable}
use Rattle.dp_model.specs.declared.parts.VarKind.{VarKind}
use Rattle.dp_model.specs.declared.parts.VarKind.TheVariants as kinds
use Rattle.dp_model.specs.declared.parts.Cells.{Cells}
use Rattle.dp_model.specs.declared.parts.Cells.TheVariants as cells
use Rattle.dp_model.specs.declared.parts.TableData.{TableData}
use Rattle.dp_model.specs.declared.parts.Effect.{Effect}
use Rattle.dp_model.specs.declared.parts.Effect.TheVariants as effects
use Rattle.dp_model.specs.declared.parts.Transition.{Transition}
use Rattle.dp_model.specs.declared.parts.Ground.{Ground}
use Rattle.dp_model.specs.declared.parts.Preference.{Preference}
use Rattle.dp_model.specs.declared.parts.Preference.TheVariants.{Without, Less, Greater}
use Rattle.dp_model.specs.declared.parts.BaseCase.{BaseCase}
use Rattle.dp_model.specs.declared.parts.PlainValue.{PlainValue}
use Rattle.dp_model.specs.declared.parts.PlainValue.TheVariants as values
use Rattle.dp_model.specs.declared.parts.PlainState.{PlainState}

-- what a name's number stands for

-- how many members an object type has
abbrev pub type_count : List ObjectType → ℕ → ℕ
type_count objects object = unwrap_or (option_and_then (λ (o : ObjectType). Some o.count) (slice_get objects object)) 0

abbrev pub kind_at : List Variable → ℕ → Option VarKind
kind_at variables v = option_and_then (λ (x : Variable). Some x.kind) (slice_get variables v)

abbrev pub is_number_kind : Option VarKind → Bool
is_number_kind (Some (kinds.Element object)) = true
is_number_kind (Some kinds.Integer) = true
is_number_kind (Some (kinds.Set object)) = false
is_number_kind None = false

abbrev pub is_set_kind : Option VarKind → Bool
is_set_kind (Some (kinds.Set object)) = true
is_set_kind (Some (kinds.Element object)) = false
is_set_kind (Some kinds.Integer) = false
is_set_kind None = false

-- the object type of what a variable holds
abbrev pub kind_object : Option VarKind → ℕ
kind_object (Some (kinds.Element object)) = object
kind_object (Some (kinds.Set object)) = object
kind_object (Some kinds.Integer) = 0
kind_object None = 0

-- the cells of a table, and the object types of its arguments

abbrev pub cells_at : List TableData → ℕ → Option Cells
cells_at tables t = option_and_then (λ (x : TableData). Some x.cells) (slice_get tables t)

abbrev pub args_at : List TableData → ℕ → List ℕ
args_at tables t = unwrap_or (option_and_then (λ (x : TableData). Some x.args) (slice_get tables t)) []

abbrev pub are_numbers : Option Cells → Bool
are_numbers (Some (cells.Numbers xs)) = true
are_numbers (Some (cells.Truths xs)) = false
are_numbers (Some (cells.Sets object xs)) = false
are_numbers None = false

abbrev pub are_truths : Option Cells → Bool
are_truths (Some (cells.Truths xs)) = true
are_truths (Some (cells.Numbers xs)) = false
are_truths (Some (cells.Sets object xs)) = false
are_truths None = false

abbrev pub are_sets : Option Cells → Bool
are_sets (Some (cells.Sets object xs)) = true
are_sets (Some (cells.Numbers xs)) = false
are_sets (Some (cells.Truths xs)) = false
are_sets None = false

-- the object type of a table's sets
abbrev pub sets_object : Option Cells → ℕ
sets_object (Some (cells.Sets object xs)) = object
sets_object (Some (cells.Numbers xs)) = 0
sets_object (Some (cells.Truths xs)) = 0
sets_object None = 0

-- a `sum` goes over a table of numbers, not of members of an object type, with one argument or more
abbrev pub is_summed : Option TableData → Bool
is_summed (Some t) = not t.element && (are_numbers (Some t.cells) && nat_lt 0 (length t.args))
is_summed None = false

-- what each form of expression needs, given what its parts need: a test for a number of parameters in force

abbrev pub NumTest : Type 0
NumTest = ℕ → Bool

abbrev pub CondTest : Type 0
CondTest = ℕ → Bool

-- a set has an object type
abbrev pub SetTest : Type 0
SetTest = ℕ × (ℕ → Bool)

-- an argument of a `sum` stands where the table has an argument of an object type
abbrev pub ArgTest : Type 0
ArgTest = ℕ → ℕ → Bool

abbrev pub arg_typed : args.Arg-F ArgTest CondTest NumTest SetTest → ArgTest
arg_typed (args.Arg-F.One n) object given = n given
arg_typed (args.Arg-F.Many set) object given = set.1 given && (set.0 == object)

-- as many arguments as the table has, each of which fits
abbrev pub args_typed : List ℕ → List ArgTest → ℕ → Bool
args_typed [] [] given = true
args_typed (object ∷ objects) (a ∷ more) given = a object given && args_typed objects more given
args_typed [] (a ∷ more) given = false
args_typed (object ∷ objects) [] given = false

-- as many numbers as the table has arguments
abbrev pub cell_typed : List ℕ → List NumTest → ℕ → Bool
cell_typed objects ns given = (length ns == length objects) && list_all (λ (n : NumTest). n given) ns

abbrev pub both_sets : SetTest → SetTest → ℕ → Bool
both_sets a b given = a.1 given && b.1 given && (a.0 == b.0)

-- what a parameter ranges over: an object type, or the members of a set variable
abbrev pub over_typed : List ObjectType → List Variable → Over → Bool
over_typed objects variables (Object object) = nat_lt object (length objects)
over_typed objects variables (Members v) = is_set_kind (kind_at variables v)

abbrev pub cond_typed : List ObjectType → List Variable → List TableData → conds.Cond-F ArgTest CondTest NumTest SetTest → CondTest
cond_typed os vs ts (conds.Cond-F.Cond::Fixed b) given = true
cond_typed os vs ts (conds.Cond-F.Cond::Cell t ns) given = are_truths (cells_at ts t) && cell_typed (args_at ts t) ns given
cond_typed os vs ts (conds.Cond-F.Numbers op a b) given = a given && b given
cond_typed os vs ts (conds.Cond-F.SameSet a b) given = both_sets a b given
cond_typed os vs ts (conds.Cond-F.OtherSet a b) given = both_sets a b given
cond_typed os vs ts (conds.Cond-F.IsIn n a) given = n given && a.1 given
cond_typed os vs ts (conds.Cond-F.Subset a b) given = both_sets a b given
cond_typed os vs ts (conds.Cond-F.Empty a) given = a.1 given
cond_typed os vs ts (conds.Cond-F.Cond::Not c) given = c given
cond_typed os vs ts (conds.Cond-F.And a b) given = a given && b given
cond_typed os vs ts (conds.Cond-F.Or a b) given = a given && b given
cond_typed os vs ts (conds.Cond-F.Cond::If c a b) given = c given && a given && b given
cond_typed os vs ts (conds.Cond-F.All over c) given = over_typed os vs over && c (suc given)

abbrev pub is_in_range : ℤ → Bool
is_in_range n = int_le (neg_ℤ greatest) n && int_le n greatest

abbrev pub num_typed : List Variable → List TableData → nums.Num-F ArgTest CondTest NumTest SetTest → NumTest
num_typed vs ts (nums.Num-F.Num::Fixed n) given = is_in_range n
num_typed vs ts (nums.Num-F.Num::Var v) given = is_number_kind (kind_at vs v)
num_typed vs ts (nums.Num-F.Param p) given = nat_lt p given
num_typed vs ts (nums.Num-F.Num::Cell t ns) given = are_numbers (cells_at ts t) && cell_typed (args_at ts t) ns given
num_typed vs ts (nums.Num-F.Sum t terms) given = is_summed (slice_get ts t) && args_typed (args_at ts t) terms given
num_typed vs ts (nums.Num-F.Size a) given = a.1 given
num_typed vs ts (nums.Num-F.Num::Op op a b) given = a given && b given
num_typed vs ts (nums.Num-F.Num::If c a b) given = c given && a given && b given

abbrev pub set_typed : List Variable → List TableData → sets.SetEx-F ArgTest CondTest NumTest SetTest → SetTest
set_typed vs ts (sets.SetEx-F.SetEx::Var v) = (kind_object (kind_at vs v), λ given. is_set_kind (kind_at vs v))
set_typed vs ts (sets.SetEx-F.SetEx::Cell t ns) = (sets_object (cells_at ts t), λ given. are_sets (cells_at ts t) && cell_typed (args_at ts t) ns given)
set_typed vs ts (sets.SetEx-F.SetEx::Op op a b) = (a.0, both_sets a b)
set_typed vs ts (sets.SetEx-F.SetEx::Not a) = a
set_typed vs ts (sets.SetEx-F.With n a) = (a.0, λ given. n given && a.1 given)
set_typed vs ts (sets.SetEx-F.Without n a) = (a.0, λ given. n given && a.1 given)
set_typed vs ts (sets.SetEx-F.SetEx::If c a b) = (a.0, λ given. c given && both_sets a b given)

-- Whether an expression is well typed, with this many parameters in force. A set comes with its object type.

abbrev pub is_num : List ObjectType → List Variable → List TableData → nums.Num → NumTest
is_num os vs ts = nums.fold-Num ArgTest CondTest NumTest SetTest arg_typed (cond_typed os vs ts) (num_typed vs ts) (set_typed vs ts)

abbrev pub is_set : List ObjectType → List Variable → List TableData → sets.SetEx → SetTest
is_set os vs ts = sets.fold-SetEx ArgTest CondTest NumTest SetTest arg_typed (cond_typed os vs ts) (num_typed vs ts) (set_typed vs ts)

abbrev pub is_cond : List ObjectType → List Variable → List TableData → conds.Cond → CondTest
is_cond os vs ts = conds.fold-Cond ArgTest CondTest NumTest SetTest arg_typed (cond_typed os vs ts) (num_typed vs ts) (set_typed vs ts)

-- ---- effects, transitions and base cases

abbrev pub holds_set_of : ℕ → Option VarKind → Bool
holds_set_of object (Some (kinds.Set other)) = object == other
holds_set_of object (Some (kinds.Element other)) = false
holds_set_of object (Some kinds.Integer) = false
holds_set_of object None = false

-- an effect sets a variable to what its kind holds
abbrev pub is_effect : List ObjectType → List Variable → List TableData → ℕ → Effect → Bool
is_effect os vs ts given (effects.Number v n) = is_number_kind (kind_at vs v) && is_num os vs ts n given
is_effect os vs ts given (effects.Members v set) = holds_set_of (is_set os vs ts set).0 (kind_at vs v) && (is_set os vs ts set).1 given

-- the variable that an effect sets
abbrev pub effect_variable : Effect → ℕ
effect_variable (effects.Number v e) = v
effect_variable (effects.Members v e) = v

-- no two effects set one variable
abbrev pub are_different : List Effect → Bool
are_different [] = true
are_different (e ∷ es) = not (list_any (λ other. effect_variable other == effect_variable e) es) && are_different es

abbrev pub is_weight : List ObjectType → List Variable → List TableData → ℕ → Option nums.Num → Bool
is_weight os vs ts given (Some n) = is_num os vs ts n given
is_weight os vs ts given None = true

-- the trees of a transition, with its parameters in force
abbrev pub is_transition : List ObjectType → List Variable → List TableData → Transition → Bool
is_transition os vs ts t =
    list_all (over_typed os vs) t.params
    && (list_all (λ c. is_cond os vs ts c (length t.params)) t.preconditions
    && (list_all (is_effect os vs ts (length t.params)) t.effects
    && (are_different t.effects
    && is_weight os vs ts (length t.params) t.weight)))

abbrev pub is_base_case : List ObjectType → List Variable → List TableData → BaseCase → Bool
is_base_case os vs ts b = list_all (λ c. is_cond os vs ts c 0) b.conditions && is_num os vs ts b.cost 0

-- every tree of a model is well typed
abbrev pub are_trees : List ObjectType → List Variable → List TableData → List Transition → (constraints : List conds.Cond) → List BaseCase → (bounds : List nums.Num) → Bool
are_trees os vs ts transitions constraints base_cases bounds =
    list_all (is_transition os vs ts) transitions
    && (list_all (λ c. is_cond os vs ts c 0) constraints
    && (list_all (is_base_case os vs ts) base_cases
    && list_all (λ n. is_num os vs ts n 0) bounds))

-- ---- numbers, sets, variables, tables and states

-- ascending members, none below the least and all below the count
abbrev pub ascends : (least count : ℕ) → List ℕ → Bool
ascends least count [] = true
ascends least count (k ∷ ks) = not (nat_lt k least) && (nat_lt k count && ascends (suc k) count ks)

-- a set of an object type with this count
abbrev pub is_set_below : ℕ → List ℕ → Bool
is_set_below count set = ascends 0 count set

-- a variable's kind names an object type that is there
abbrev pub is_kind : List ObjectType → VarKind → Bool
is_kind objects (kinds.Element object) = nat_lt object (length objects)
is_kind objects (kinds.Set object) = nat_lt object (length objects)
is_kind objects kinds.Integer = true

abbrev pub is_without : Preference → Bool
is_without Without = true
is_without Less = false
is_without Greater = false

-- A resource holds numbers: a set variable has no preference.
abbrev pub may_prefer : VarKind → Preference → Bool
may_prefer (kinds.Set object) preference = is_without preference
may_prefer (kinds.Element object) preference = true
may_prefer kinds.Integer preference = true

abbrev pub is_variable : List ObjectType → Variable → Bool
is_variable objects v = is_kind objects v.kind && may_prefer v.kind v.preference

abbrev pub are_variables : List ObjectType → List Variable → Bool
are_variables objects variables = list_all (is_variable objects) variables

-- how many choices of arguments of these object types there are
abbrev pub cell_count : List ObjectType → List ℕ → ℕ
cell_count objects [] = 1
cell_count objects (object ∷ args) = type_count objects object * cell_count objects args

-- so many cells, each of which is in range or a set of the table's object type
abbrev pub are_cells : List ObjectType → ℕ → Cells → Bool
are_cells objects count (cells.Numbers xs) = (length xs == count) && list_all is_in_range xs
are_cells objects count (cells.Truths xs) = length xs == count
are_cells objects count (cells.Sets object xs) = (length xs == count) && (nat_lt object (length objects) && list_all (is_set_below (type_count objects object)) xs)

-- A table has one cell for each choice of arguments, each of an object type that is there. Only numbers are told to be
-- members of an object type.
abbrev pub is_table : List ObjectType → TableData → Bool
is_table objects t =
    list_all (λ object. nat_lt object (length objects)) t.args
    && (are_cells objects (cell_count objects t.args) t.cells
    && (not t.element || are_numbers (Some t.cells)))

abbrev pub are_tables : List ObjectType → List TableData → Bool
are_tables objects tables = list_all (is_table objects) tables

-- A variable of this kind may hold this value. An element may be any number of 32 bits.
abbrev pub may_hold : List ObjectType → VarKind → PlainValue → Bool
may_hold objects kinds.Integer (values.Number n) = is_in_range n
may_hold objects (kinds.Element object) (values.Number n) = int_le (pos 0) n && int_lt n (pos (2 ^ 32))
may_hold objects (kinds.Set object) (values.Members set) = is_set_below (type_count objects object) set
may_hold objects kind value = false

-- one value for each variable
abbrev pub are_held : List ObjectType → List Variable → List PlainValue → Bool
are_held objects [] [] = true
are_held objects (v ∷ vs) (x ∷ xs) = may_hold objects v.kind x && are_held objects vs xs
are_held objects [] (x ∷ xs) = false
are_held objects (v ∷ vs) [] = false

abbrev pub is_state : List ObjectType → List Variable → PlainState → Bool
is_state objects variables s = are_held objects variables s.values

-- ---- parameters

abbrev pub over_object : List Variable → Over → ℕ
over_object variables (Object object) = object
over_object variables (Members v) = kind_object (kind_at variables v)

-- one value for each parameter, below the count of the object type that it ranges over
abbrev pub are_arguments : List ObjectType → List Variable → List Over → List ℕ → Bool
are_arguments objects variables [] [] = true
are_arguments objects variables (over ∷ overs) (k ∷ given) = nat_lt k (type_count objects (over_object variables over)) && are_arguments objects variables overs given
are_arguments objects variables [] (k ∷ given) = false
are_arguments objects variables (over ∷ overs) [] = false

-- a ground transition names a transition that is there, and gives each of its parameters a value
abbrev pub is_ground : List ObjectType → List Variable → List Transition → Ground → Bool
is_ground objects variables transitions g = fits (slice_get transitions g.transition)
  where
    fits : Option Transition → Bool
    fits (Some t) = are_arguments objects variables t.params g.args
    fits None = false

abbrev pub are_grounded : List ObjectType → List Variable → List Transition → List Ground → Bool
are_grounded objects variables transitions grounds = list_all (is_ground objects variables transitions) grounds
