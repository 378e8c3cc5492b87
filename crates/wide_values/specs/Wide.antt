-- The wide value of an expression in a state: its value where numbers have no limits and every test passes. A result is
-- not tested for its range, a quotient by 0 is whatever the division gives, and a number that is no member of an object
-- type leads where it leads. So each expression has one. It is a fold over the trees, one line for each form.
use Rattle.std.specs.Prelude.{ℕ, Bool, not, ◌&&◌, ◌||◌, ◌==◌, if◌then◌else◌, ◌⊎◌, List, [], ◌∷◌, ◌++◌, length, map, slice_index, ℤ, pos, negsuc, ◌+ℤ◌, ◌-ℤ◌, ◌*ℤ◌, int_div, int_rem}
use Rattle.std.specs.List.{list_all}
use Rattle.std.specs.Int.{int_min, int_max}
use Rattle.std.specs.Str.{bytes_eq}
use Rattle.std.proofs.Common.{inl, inr}
use Rattle.dp_model.specs.Evaluation.{compares, has, members_where, set_operation, count_of, kind_of, object_of_kind, number_in, set_in, table_counts, place_in, number_cell, truth_cell, set_cell, cells_object, cells_of, ways, total_of, range_of}
use Rattle.dp_model.specs.declared.trees.NumOp.{NumOp}
use Rattle.dp_model.specs.declared.trees.NumOp.TheVariants as number_operations
use Rattle.dp_model.specs.declared.trees.Arg as args
use Rattle.dp_model.specs.declared.trees.Num as nums
use Rattle.dp_model.specs.declared.trees.SetEx as sets
use Rattle.dp_model.specs.declared.trees.Cond as conds
use Rattle.dp_model.specs.declared.parts.PlainState.{PlainState}
use Rattle.dp_model.specs.declared.whole.Model.{Model}

abbrev pub wide_operation : NumOp → ℤ → ℤ → ℤ
wide_operation number_operations.Plus a b = a +ℤ b
wide_operation number_operations.Minus a b = a -ℤ b
wide_operation number_operations.Times a b = a *ℤ b
wide_operation number_operations.Over a b = int_div a b
wide_operation number_operations.Rest a b = int_rem a b
wide_operation number_operations.Most a b = int_max a b
wide_operation number_operations.Least a b = int_min a b

-- a number as a member of any object type; a negative one stands for 0
abbrev pub wide_member : ℤ → ℕ
wide_member (pos n) = n
wide_member (negsuc n) = 0

-- the arguments of a table as members, as many as it has
abbrev pub wide_members : List ℕ → List ℤ → List ℕ
wide_members [] numbers = []
wide_members (count ∷ counts) [] = []
wide_members (count ∷ counts) (n ∷ numbers) = wide_member n ∷ wide_members counts numbers

-- the choices for each argument of a `sum`: one member for a number, and each member of a set
abbrev pub wide_choices : List ℕ → List (ℤ ⊎ List ℕ) → List (List ℕ)
wide_choices [] given = []
wide_choices (count ∷ counts) [] = []
wide_choices (count ∷ counts) (inl n ∷ given) = (wide_member n ∷ []) ∷ wide_choices counts given
wide_choices (count ∷ counts) (inr set ∷ given) = set ∷ wide_choices counts given

-- what each form of expression stands for, given what its parts stand for

abbrev pub WideNum : Type 0
WideNum = List ℕ → ℤ

abbrev pub WideCond : Type 0
WideCond = List ℕ → Bool

-- a set has an object type, and its members
abbrev pub WideSet : Type 0
WideSet = ℕ × (List ℕ → List ℕ)

-- an argument of a `sum` is a number or a set
abbrev pub WideArg : Type 0
WideArg = List ℕ → ℤ ⊎ List ℕ

abbrev pub arg_wide : args.Arg-F WideArg WideCond WideNum WideSet → WideArg
arg_wide (args.Arg-F.One n) given = inl (n given)
arg_wide (args.Arg-F.Many set) given = inr (set.1 given)

-- the place of the cell that these arguments lead to
abbrev pub wide_place : Model → ℕ → List WideNum → List ℕ → ℕ
wide_place m t ns given = place_in m t (wide_members (table_counts m t) (map (λ (n : WideNum). n given) ns))

abbrev pub cond_wide : Model → PlainState → conds.Cond-F WideArg WideCond WideNum WideSet → WideCond
cond_wide m s (conds.Cond-F.Cond::Fixed b) given = b
cond_wide m s (conds.Cond-F.Cond::Cell t ns) given = truth_cell (cells_of m t) (wide_place m t ns given)
cond_wide m s (conds.Cond-F.Numbers op a b) given = compares op (a given) (b given)
cond_wide m s (conds.Cond-F.SameSet a b) given = bytes_eq (a.1 given) (b.1 given)
cond_wide m s (conds.Cond-F.OtherSet a b) given = not (bytes_eq (a.1 given) (b.1 given))
cond_wide m s (conds.Cond-F.IsIn n set) given = has (set.1 given) (wide_member (n given))
cond_wide m s (conds.Cond-F.Subset a b) given = list_all (has (b.1 given)) (a.1 given)
cond_wide m s (conds.Cond-F.Empty a) given = length (a.1 given) == 0
cond_wide m s (conds.Cond-F.Cond::Not c) given = not (c given)
cond_wide m s (conds.Cond-F.And a b) given = a given && b given
cond_wide m s (conds.Cond-F.Or a b) given = a given || b given
cond_wide m s (conds.Cond-F.Cond::If c a b) given = if c given then a given else b given
cond_wide m s (conds.Cond-F.All over c) given = list_all (λ k. c (given ++ k ∷ [])) (range_of m s over)

abbrev pub num_wide : Model → PlainState → nums.Num-F WideArg WideCond WideNum WideSet → WideNum
num_wide m s (nums.Num-F.Num::Fixed n) given = n
num_wide m s (nums.Num-F.Num::Var v) given = number_in s v
num_wide m s (nums.Num-F.Param p) given = pos (slice_index given p)
num_wide m s (nums.Num-F.Num::Cell t ns) given = number_cell (cells_of m t) (wide_place m t ns given)
num_wide m s (nums.Num-F.Sum t terms) given = total_of m t (ways (wide_choices (table_counts m t) (map (λ (a : WideArg). a given) terms)))
num_wide m s (nums.Num-F.Size set) given = pos (length (set.1 given))
num_wide m s (nums.Num-F.Num::Op op a b) given = wide_operation op (a given) (b given)
num_wide m s (nums.Num-F.Num::If c a b) given = if c given then a given else b given

abbrev pub set_wide : Model → PlainState → sets.SetEx-F WideArg WideCond WideNum WideSet → WideSet
set_wide m s (sets.SetEx-F.SetEx::Var v) = (object_of_kind (kind_of m v), λ given. set_in s v)
set_wide m s (sets.SetEx-F.SetEx::Cell t ns) = (cells_object (cells_of m t), λ given. set_cell (cells_of m t) (wide_place m t ns given))
set_wide m s (sets.SetEx-F.SetEx::Op op a b) = (a.0, λ given. set_operation op (count_of m a.0) (a.1 given) (b.1 given))
set_wide m s (sets.SetEx-F.SetEx::Not a) = (a.0, λ given. members_where (count_of m a.0) (λ k. not (has (a.1 given) k)))
set_wide m s (sets.SetEx-F.With n a) = (a.0, λ given. members_where (count_of m a.0) (λ k. k == wide_member (n given) || has (a.1 given) k))
set_wide m s (sets.SetEx-F.Without n a) = (a.0, λ given. members_where (count_of m a.0) (λ k. not (k == wide_member (n given)) && has (a.1 given) k))
set_wide m s (sets.SetEx-F.SetEx::If c a b) = (a.0, λ given. if c given then a.1 given else b.1 given)

-- what an expression stands for in a state, with these values of the parameters

abbrev pub wide_num : Model → PlainState → nums.Num → WideNum
wide_num m s = nums.fold-Num WideArg WideCond WideNum WideSet arg_wide (cond_wide m s) (num_wide m s) (set_wide m s)

abbrev pub wide_cond : Model → PlainState → conds.Cond → WideCond
wide_cond m s = conds.fold-Cond WideArg WideCond WideNum WideSet arg_wide (cond_wide m s) (num_wide m s) (set_wide m s)

abbrev pub wide_arg : Model → PlainState → args.Arg → WideArg
wide_arg m s = args.fold-Arg WideArg WideCond WideNum WideSet arg_wide (cond_wide m s) (num_wide m s) (set_wide m s)

-- a set with its object type
abbrev pub wide_typed : Model → PlainState → sets.SetEx → WideSet
wide_typed m s = sets.fold-SetEx WideArg WideCond WideNum WideSet arg_wide (cond_wide m s) (num_wide m s) (set_wide m s)

abbrev pub wide_set : Model → PlainState → sets.SetEx → List ℕ → List ℕ
wide_set m s e = (wide_typed m s e).1
