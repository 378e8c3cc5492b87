-- What values are like in a state of the model: those of parameters, variables, cells and well-typed expressions.
use Rattle.std.specs.Prelude.{◌≡◌, ℕ, ◌<◌, ◌⊎◌, List, length, map, slice_get, Some, Bool, IsTrue, IfOk, Ok, ℤ, pos}
use Rattle.std.specs.List.{list_all}
use Rattle.dp_model.specs.Costs.{InRange}
use Rattle.dp_model.specs.Typing.{type_count, kind_at, kind_object, is_number_kind, is_set_kind, over_typed, over_object, is_num, is_set, is_in_range, is_set_below, is_state, are_arguments, cell_typed, args_typed, arg_typed, cond_typed, num_typed, set_typed, ArgTest, CondTest, NumTest, SetTest}
use Rattle.dp_model.specs.Evaluation.{num_value, set_value, range_of, table_counts, members_of, choices_of, ways, place_in}
use Rattle.dp_model.specs.declared.whole.Model.{Model}
use Rattle.dp_model.specs.declared.parts.ObjectType.{ObjectType}
use Rattle.dp_model.specs.declared.parts.Variable.{Variable}
use Rattle.dp_model.specs.declared.parts.Cells.{Cells}
use Rattle.dp_model.specs.declared.parts.Cells.TheVariants as cells
use Rattle.dp_model.specs.declared.parts.TableData.{TableData}
use Rattle.dp_model.specs.declared.parts.PlainState.{PlainState}
use Rattle.dp_model.specs.declared.parts.PlainValue.TheVariants as values
use Rattle.dp_model.specs.declared.trees.Over.{Over}
use Rattle.dp_model.specs.declared.trees.Arg as args
use Rattle.dp_model.specs.declared.trees.Num.{Num}
use Rattle.dp_model.specs.declared.trees.SetEx.{SetEx}
use Rattle.dp_eval.specs.Terms.{num_values, term_values}

-- the values of the parameters in force are numbers in range
abbrev pub are_given : List ℕ → Bool
are_given given = list_all (λ k. is_in_range (pos k)) given

-- values below the counts of what parameters range over are as many, and in range
abbrev pub ArgumentsFit : Type 0
ArgumentsFit =
    (m : Model) (params : List Over) (given : List ℕ) → IsTrue (are_arguments m.objects m.variables params given)
    → (length given ≡ length params) × IsTrue (are_given given)

-- what a `forall` gives its parameter: ascending members of the object type that it ranges over, in range
abbrev pub RangesFit : Type 0
RangesFit =
    (m : Model) (s : PlainState) (over : Over) → IsTrue (is_state m.objects m.variables s) → IsTrue (over_typed m.objects m.variables over)
    → IsTrue (is_set_below (type_count m.objects (over_object m.variables over)) (range_of m s over)) × IsTrue (are_given (range_of m s over))

-- a number variable has a number in the state
abbrev pub NumbersHeld : Type 0
NumbersHeld =
    (m : Model) (s : PlainState) (v : ℕ) → IsTrue (is_state m.objects m.variables s) → IsTrue (is_number_kind (kind_at m.variables v))
    → (n : ℤ) × (slice_get s.values v ≡ Some (values.Number n)) × InRange n

-- a set variable has a set of its object type in the state
abbrev pub SetsHeld : Type 0
SetsHeld =
    (m : Model) (s : PlainState) (v : ℕ) → IsTrue (is_state m.objects m.variables s) → IsTrue (is_set_kind (kind_at m.variables v))
    → (set : List ℕ) × (slice_get s.values v ≡ Some (values.Members set)) × IsTrue (is_set_below (type_count m.objects (kind_object (kind_at m.variables v))) set)

abbrev pub cells_length : Cells → ℕ
cells_length (cells.Numbers xs) = length xs
cells_length (cells.Truths xs) = length xs
cells_length (cells.Sets object xs) = length xs

-- the well-typed arguments of a cell lead to one that is there, where they are members
abbrev pub CellsHeld : Type 0
CellsHeld =
    (m : Model) (s : PlainState) (t : ℕ) (table : TableData) (ns : List Num) (given : List ℕ) (numbers : List ℤ) (members : List ℕ) → slice_get m.tables t ≡ Some table
    → IsTrue (cell_typed table.args (map (is_num m.objects m.variables m.tables) ns) (length given)) → num_values m s ns given ≡ Ok numbers
    → members_of (table_counts m t) numbers ≡ Ok members → place_in m t members < cells_length table.cells

-- whether an argument of a `sum` is well typed, where the table has one of an object type
abbrev pub is_arg : List ObjectType → List Variable → List TableData → args.Arg → ArgTest
is_arg os vs ts = args.fold-Arg ArgTest CondTest NumTest SetTest arg_typed (cond_typed os vs ts) (num_typed vs ts) (set_typed vs ts)

-- the well-typed arguments of a `sum` lead to a cell that is there, by each way to choose one member for each of them
abbrev pub SumsHeld : Type 0
SumsHeld =
    (m : Model) (s : PlainState) (t : ℕ) (table : TableData) (terms : List args.Arg) (given : List ℕ) (xs : List (ℤ ⊎ List ℕ)) (choices : List (List ℕ)) (i : ℕ) (way : List ℕ)
    → IsTrue (is_state m.objects m.variables s) → IsTrue (are_given given) → slice_get m.tables t ≡ Some table
    → IsTrue (args_typed table.args (map (is_arg m.objects m.variables m.tables) terms) (length given)) → term_values m s terms given ≡ Ok xs
    → choices_of (table_counts m t) xs ≡ Ok choices → slice_get (ways choices) i ≡ Some way → place_in m t way < cells_length table.cells

-- a well-typed number is in range, where it is no fault
abbrev pub NumbersFit : Type 0
NumbersFit =
    (m : Model) (s : PlainState) (e : Num) (given : List ℕ) → IsTrue (is_state m.objects m.variables s) → IsTrue (are_given given)
    → IsTrue (is_num m.objects m.variables m.tables e (length given)) → IfOk (num_value m s e given) InRange

-- a set is of the object type that its typing says
abbrev pub SetsTyped : Type 0
SetsTyped = (m : Model) (s : PlainState) (e : SetEx) → (set_value m s e).0 ≡ (is_set m.objects m.variables m.tables e).0

-- a well-typed set has ascending members of its object type, where it is no fault
abbrev pub SetsFit : Type 0
SetsFit =
    (m : Model) (s : PlainState) (e : SetEx) (given : List ℕ) → IsTrue (is_state m.objects m.variables s) → IsTrue (are_given given)
    → IsTrue ((is_set m.objects m.variables m.tables e).1 (length given))
    → IfOk ((set_value m s e).1 given) (λ set. IsTrue (is_set_below (type_count m.objects (is_set m.objects m.variables m.tables e).0) set))
