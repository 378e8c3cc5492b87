-- The value of an expression in a state, or the first fault that is met, over whole numbers without limit and
-- ascending lists of members. It is a fold over the trees: one line for each form of expression. An expression
-- takes the values of the parameters that are in force, in order, since a `forall` adds one.
use Rattle.std.specs.Prelude.{ℕ, ◌+◌, ◌*◌, Bool, true, false, not, ◌&&◌, ◌||◌, nat_lt, nat_eq, ◌==◌, if◌then◌else◌, ◌⊎◌, List, [], ◌∷◌, ◌++◌, length, filter, map, slice_get, slice_index, Option, Some, None, option_and_then, unwrap_or, Result, Ok, Err, ℤ, pos, negsuc, ◌+ℤ◌, ◌-ℤ◌, ◌*ℤ◌, int_div, int_rem, int_lt, int_le}
use Rattle.std.specs.List.{list_any, list_all, range_with_len, flat_map}
use Rattle.std.specs.Int.{int_min, int_max}
use Rattle.std.specs.Ordering.{int_eq}
use Rattle.std.specs.Str.{bytes_eq}
use Rattle.std.proofs.Common.{inl, inr}
use Rattle.dp_base.specs.Results.{◌>>=◌, in_turn}
use Rattle.dp_model.specs.Costs.{ranged}
use Rattle.dp_model.specs.declared.answers.FaultKind.{FaultKind}
use Rattle.dp_model.specs.declared.answers.FaultKind.TheVariants.{ZeroDivisor, Negative, Index}
use Rattle.dp_model.specs.declared.trees.NumOp.{NumOp}
use Rattle.dp_model.specs.declared.trees.NumOp.TheVariants as number_operations
use Rattle.dp_model.specs.declared.trees.SetOp.{SetOp}
use Rattle.dp_model.specs.declared.trees.SetOp.TheVariants.{Union, Intersection, Difference}
use Rattle.dp_model.specs.declared.trees.Compare.{Compare}
use Rattle.dp_model.specs.declared.trees.Compare.TheVariants as comparisons
use Rattle.dp_model.specs.declared.trees.Over.{Over}
use Rattle.dp_model.specs.declared.trees.Over.TheVariants.{Object, Members}
use Rattle.dp_model.specs.declared.trees.Arg as args
use Rattle.dp_model.specs.declared.trees.Num as nums
use Rattle.dp_model.specs.declared.trees.SetEx as sets
use Rattle.dp_model.specs.declared.trees.Cond as conds
use Rattle.dp_model.specs.declared.parts.ObjectType.{ObjectType}
use Rattle.dp_model.specs.declared.parts.Variable.{Variable}
use Rattle.dp_model.specs.declared.parts.VarKind.{VarKind}
use Rattle.dp_model.specs.declared.parts.VarKind.TheVariants as kinds
use Rattle.dp_model.specs.declared.parts.Cells.{Cells}
use Rattle.dp_model.specs.declared.parts.Cells.TheVariants as cells
use Rattle.dp_model.specs.declared.parts.TableData.{TableData}
use Rattle.dp_model.specs.declared.parts.PlainValue.{PlainValue}
use Rattle.dp_model.specs.declared.parts.PlainValue.TheVariants as values
use Rattle.dp_model.specs.declared.parts.PlainState.{PlainState}
use Rattle.dp_model.specs.declared.whole.Model.{Model}

-- whether a test holds of each, in turn up to the first of which it does not
abbrev pub each_holds : {A : Type 0} → (A → Result Bool FaultKind) → List A → Result Bool FaultKind
each_holds f [] = Ok true
each_holds f (x ∷ xs) = f x >>= λ held. if held then each_holds f xs else Ok false

-- numbers

abbrev pub operate : NumOp → ℤ → ℤ → Result ℤ FaultKind
operate number_operations.Plus a b = ranged (a +ℤ b)
operate number_operations.Minus a b = ranged (a -ℤ b)
operate number_operations.Times a b = ranged (a *ℤ b)
operate number_operations.Over a b = if int_eq b (pos 0) then Err ZeroDivisor else ranged (int_div a b)
operate number_operations.Rest a b = if int_eq b (pos 0) then Err ZeroDivisor else ranged (int_rem a b)
operate number_operations.Most a b = Ok (int_max a b)
operate number_operations.Least a b = Ok (int_min a b)

abbrev pub compares : Compare → ℤ → ℤ → Bool
compares comparisons.Same a b = int_eq a b
compares comparisons.Other a b = not (int_eq a b)
compares comparisons.Less a b = int_lt a b
compares comparisons.AtMost a b = int_le a b
compares comparisons.More a b = int_lt b a
compares comparisons.AtLeast a b = int_le b a

-- sets, as ascending lists of members of an object type with a count

abbrev pub has : List ℕ → ℕ → Bool
has set k = list_any (nat_eq k) set

abbrev pub members_where : ℕ → (ℕ → Bool) → List ℕ
members_where count test = filter test (range_with_len 0 count)

abbrev pub set_operation : SetOp → ℕ → List ℕ → List ℕ → List ℕ
set_operation Union count a b = members_where count (λ k. has a k || has b k)
set_operation Intersection count a b = members_where count (λ k. has a k && has b k)
set_operation Difference count a b = members_where count (λ k. has a k && not (has b k))

-- a number as a member of an object type with this count
abbrev pub member_of : ℕ → ℤ → Result ℕ FaultKind
member_of count (pos n) = if nat_lt n count then Ok n else Err Index
member_of count (negsuc n) = Err Negative

-- what the model says of a name's number

abbrev pub count_of : Model → ℕ → ℕ
count_of m object = unwrap_or (option_and_then (λ (o : ObjectType). Some o.count) (slice_get m.objects object)) 0

abbrev pub kind_of : Model → ℕ → VarKind
kind_of m v = unwrap_or (option_and_then (λ (x : Variable). Some x.kind) (slice_get m.variables v)) kinds.Integer

-- the object type of what a variable holds
abbrev pub object_of_kind : VarKind → ℕ
object_of_kind (kinds.Element object) = object
object_of_kind (kinds.Set object) = object
object_of_kind kinds.Integer = 0

-- the number or the set that a variable holds in a state

abbrev pub number_held : Option PlainValue → ℤ
number_held (Some (values.Number n)) = n
number_held (Some (values.Members set)) = pos 0
number_held None = pos 0

abbrev pub set_held : Option PlainValue → List ℕ
set_held (Some (values.Members set)) = set
set_held (Some (values.Number n)) = []
set_held None = []

abbrev pub number_in : PlainState → ℕ → ℤ
number_in s v = number_held (slice_get s.values v)

abbrev pub set_in : PlainState → ℕ → List ℕ
set_in s v = set_held (slice_get s.values v)

-- tables: a cell's place is in row order, the first argument slowest

abbrev pub place_from : ℕ → List ℕ → List ℕ → ℕ
place_from at [] members = at
place_from at (count ∷ counts) [] = at
place_from at (count ∷ counts) (k ∷ members) = place_from (at * count + k) counts members

abbrev pub counts_of : Model → List ℕ → List ℕ
counts_of m [] = []
counts_of m (object ∷ objects) = count_of m object ∷ counts_of m objects

abbrev pub table_counts : Model → ℕ → List ℕ
table_counts m t = unwrap_or (option_and_then (λ (x : TableData). Some (counts_of m x.args)) (slice_get m.tables t)) []

abbrev pub place_in : Model → ℕ → List ℕ → ℕ
place_in m t members = place_from 0 (table_counts m t) members

abbrev pub number_cell : Cells → ℕ → ℤ
number_cell (cells.Numbers xs) at = unwrap_or (slice_get xs at) (pos 0)
number_cell (cells.Truths xs) at = pos 0
number_cell (cells.Sets object xs) at = pos 0

abbrev pub truth_cell : Cells → ℕ → Bool
truth_cell (cells.Truths xs) at = unwrap_or (slice_get xs at) false
truth_cell (cells.Numbers xs) at = false
truth_cell (cells.Sets object xs) at = false

abbrev pub set_cell : Cells → ℕ → List ℕ
set_cell (cells.Sets object xs) at = unwrap_or (slice_get xs at) []
set_cell (cells.Numbers xs) at = []
set_cell (cells.Truths xs) at = []

abbrev pub cells_object : Cells → ℕ
cells_object (cells.Sets object xs) = object
cells_object (cells.Numbers xs) = 0
cells_object (cells.Truths xs) = 0

abbrev pub cells_of : Model → ℕ → Cells
cells_of m t = unwrap_or (option_and_then (λ (x : TableData). Some x.cells) (slice_get m.tables t)) (cells.Numbers [])

-- the arguments of a table as members, tested in order; a missing one ends the list
abbrev pub members_of : List ℕ → List ℤ → Result (List ℕ) FaultKind
members_of [] numbers = Ok []
members_of (count ∷ counts) [] = Ok []
members_of (count ∷ counts) (n ∷ numbers) = member_of count n >>= λ k. members_of counts numbers >>= λ members. Ok (k ∷ members)

-- the choices for each argument of a `sum`: one member for a number, tested in order, and each member of a set
abbrev pub choices_of : List ℕ → List (ℤ ⊎ List ℕ) → Result (List (List ℕ)) FaultKind
choices_of [] given = Ok []
choices_of (count ∷ counts) [] = Ok []
choices_of (count ∷ counts) (inl n ∷ given) = member_of count n >>= λ k. choices_of counts given >>= λ choices. Ok ((k ∷ []) ∷ choices)
choices_of (count ∷ counts) (inr set ∷ given) = choices_of counts given >>= λ choices. Ok (set ∷ choices)

-- each way to choose one of each
abbrev pub ways : List (List ℕ) → List (List ℕ)
ways [] = [] ∷ []
ways (set ∷ sets) = flat_map (λ k. map (λ members. k ∷ members) (ways sets)) set

abbrev pub total_of : Model → ℕ → List (List ℕ) → ℤ
total_of m t [] = pos 0
total_of m t (members ∷ rest) = number_cell (cells_of m t) (place_in m t members) +ℤ total_of m t rest

-- what each form of expression stands for, given what its parts stand for

abbrev pub NumValue : Type 0
NumValue = List ℕ → Result ℤ FaultKind

abbrev pub CondValue : Type 0
CondValue = List ℕ → Result Bool FaultKind

-- a set has an object type, and its members
abbrev pub SetValue : Type 0
SetValue = ℕ × (List ℕ → Result (List ℕ) FaultKind)

-- an argument of a `sum` is a number or a set
abbrev pub ArgValue : Type 0
ArgValue = List ℕ → Result (ℤ ⊎ List ℕ) FaultKind

abbrev pub arg_step : args.Arg-F ArgValue CondValue NumValue SetValue → ArgValue
arg_step (args.Arg-F.One n) given = n given >>= λ z. Ok (inl z)
arg_step (args.Arg-F.Many set) given = set.1 given >>= λ members. Ok (inr members)

-- the members that a `forall` ranges over
abbrev pub range_of : Model → PlainState → Over → List ℕ
range_of m s (Object object) = range_with_len 0 (count_of m object)
range_of m s (Members v) = set_in s v

abbrev pub same_members : (ℕ × (List ℕ → Result (List ℕ) FaultKind)) → (ℕ × (List ℕ → Result (List ℕ) FaultKind)) → CondValue
same_members a b given = a.1 given >>= λ xs. b.1 given >>= λ ys. Ok (bytes_eq xs ys)

abbrev pub negated : Result Bool FaultKind → Result Bool FaultKind
negated r = r >>= λ held. Ok (not held)

-- Operands are evaluated from left to right, and then the operation is tested; `and`, `or` and `if` evaluate only what decides them.
abbrev pub cond_step : Model → PlainState → conds.Cond-F ArgValue CondValue NumValue SetValue → CondValue
cond_step m s (conds.Cond-F.Cond::Fixed b) given = Ok b
cond_step m s (conds.Cond-F.Cond::Cell t ns) given = in_turn (λ (n : NumValue). n given) ns >>= λ zs. members_of (table_counts m t) zs >>= λ members. Ok (truth_cell (cells_of m t) (place_in m t members))
cond_step m s (conds.Cond-F.Numbers op a b) given = a given >>= λ x. b given >>= λ y. Ok (compares op x y)
cond_step m s (conds.Cond-F.SameSet a b) given = same_members a b given
cond_step m s (conds.Cond-F.OtherSet a b) given = negated (same_members a b given)
cond_step m s (conds.Cond-F.IsIn n set) given = n given >>= λ z. set.1 given >>= λ members. member_of (count_of m set.0) z >>= λ k. Ok (has members k)
cond_step m s (conds.Cond-F.Subset a b) given = a.1 given >>= λ xs. b.1 given >>= λ ys. Ok (list_all (has ys) xs)
cond_step m s (conds.Cond-F.Empty a) given = a.1 given >>= λ xs. Ok (length xs == 0)
cond_step m s (conds.Cond-F.Cond::Not c) given = negated (c given)
cond_step m s (conds.Cond-F.And a b) given = a given >>= λ held. if held then b given else Ok false
cond_step m s (conds.Cond-F.Or a b) given = a given >>= λ held. if held then Ok true else b given
cond_step m s (conds.Cond-F.Cond::If c a b) given = c given >>= λ held. if held then a given else b given
cond_step m s (conds.Cond-F.All over c) given = each_holds (λ k. c (given ++ k ∷ [])) (range_of m s over)

abbrev pub num_step : Model → PlainState → nums.Num-F ArgValue CondValue NumValue SetValue → NumValue
num_step m s (nums.Num-F.Num::Fixed n) given = Ok n
num_step m s (nums.Num-F.Num::Var v) given = Ok (number_in s v)
num_step m s (nums.Num-F.Param p) given = Ok (pos (slice_index given p))
num_step m s (nums.Num-F.Num::Cell t ns) given = in_turn (λ (n : NumValue). n given) ns >>= λ zs. members_of (table_counts m t) zs >>= λ members. Ok (number_cell (cells_of m t) (place_in m t members))
num_step m s (nums.Num-F.Sum t terms) given = in_turn (λ (a : ArgValue). a given) terms >>= λ xs. choices_of (table_counts m t) xs >>= λ choices. ranged (total_of m t (ways choices))
num_step m s (nums.Num-F.Size set) given = set.1 given >>= λ members. Ok (pos (length members))
num_step m s (nums.Num-F.Num::Op op a b) given = a given >>= λ x. b given >>= λ y. operate op x y
num_step m s (nums.Num-F.Num::If c a b) given = c given >>= λ held. if held then a given else b given

abbrev pub set_step : Model → PlainState → sets.SetEx-F ArgValue CondValue NumValue SetValue → SetValue
set_step m s (sets.SetEx-F.SetEx::Var v) = (object_of_kind (kind_of m v), λ given. Ok (set_in s v))
set_step m s (sets.SetEx-F.SetEx::Cell t ns) = (cells_object (cells_of m t), λ given. in_turn (λ (n : NumValue). n given) ns >>= λ zs. members_of (table_counts m t) zs >>= λ members. Ok (set_cell (cells_of m t) (place_in m t members)))
set_step m s (sets.SetEx-F.SetEx::Op op a b) = (a.0, λ given. a.1 given >>= λ xs. b.1 given >>= λ ys. Ok (set_operation op (count_of m a.0) xs ys))
set_step m s (sets.SetEx-F.SetEx::Not a) = (a.0, λ given. a.1 given >>= λ xs. Ok (members_where (count_of m a.0) (λ k. not (has xs k))))
set_step m s (sets.SetEx-F.With n a) = (a.0, λ given. n given >>= λ z. a.1 given >>= λ xs. member_of (count_of m a.0) z >>= λ e. Ok (members_where (count_of m a.0) (λ k. k == e || has xs k)))
set_step m s (sets.SetEx-F.Without n a) = (a.0, λ given. n given >>= λ z. a.1 given >>= λ xs. member_of (count_of m a.0) z >>= λ e. Ok (members_where (count_of m a.0) (λ k. not (k == e) && has xs k)))
set_step m s (sets.SetEx-F.SetEx::If c a b) = (a.0, λ given. c given >>= λ held. if held then a.1 given else b.1 given)

-- what an expression stands for in a state, with these values of the parameters

abbrev pub num_value : Model → PlainState → nums.Num → NumValue
num_value m s = nums.fold-Num ArgValue CondValue NumValue SetValue arg_step (cond_step m s) (num_step m s) (set_step m s)

abbrev pub set_value : Model → PlainState → sets.SetEx → SetValue
set_value m s = sets.fold-SetEx ArgValue CondValue NumValue SetValue arg_step (cond_step m s) (num_step m s) (set_step m s)

abbrev pub cond_value : Model → PlainState → conds.Cond → CondValue
cond_value m s = conds.fold-Cond ArgValue CondValue NumValue SetValue arg_step (cond_step m s) (num_step m s) (set_step m s)
