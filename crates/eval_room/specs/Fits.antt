-- When an expression can be evaluated in so many words of room, with so many parameters in force: it is well typed where
-- sets meet, and each operand that has to be held finds its words. A fold, one line for each form.
use Rattle.std.specs.Prelude.{ℕ, ◌+◌, ◌-◌, Bool, true, false, ◌&&◌, ◌⊎◌, nat_le, nat_lt, ◌==◌, List, [], ◌∷◌, map}
use Rattle.std.specs.List.{list_all}
use Rattle.std.proofs.Common.{inl, inr}
use Rattle.state_layout.specs.Signatures.{word_count}
use Rattle.dp_model.specs.Typing.{is_number_kind, is_set_kind, kind_at}
use Rattle.packed_words.specs.Ranges.{over_fits}
use Rattle.dp_model.specs.Evaluation.{count_of, kind_of, object_of_kind, cells_of, cells_object, table_counts}
use Rattle.dp_model.specs.declared.trees.Arg as args
use Rattle.dp_model.specs.declared.trees.Num as nums
use Rattle.dp_model.specs.declared.trees.SetEx as sets
use Rattle.dp_model.specs.declared.trees.Cond as conds
use Rattle.dp_model.specs.declared.whole.Model.{Model}

-- tests of a number of parameters in force and a number of words
abbrev pub RoomTest : Type 0
RoomTest = ℕ → ℕ → Bool

-- a set has an object type
abbrev pub SetRoom : Type 0
SetRoom = ℕ × (ℕ → ℕ → Bool)

-- a set that is held while what stands behind it is evaluated
abbrev pub operand_fits : Model → SetRoom → RoomTest
operand_fits m a given room = nat_le (word_count (count_of m a.0)) room && a.1 given (room - word_count (count_of m a.0))

-- two sets of one object type, of which the first is held
abbrev pub both_fit : Model → SetRoom → SetRoom → RoomTest
both_fit m a b given room =
    operand_fits m a given room && ((a.0 == b.0) && operand_fits m b given (room - word_count (count_of m a.0)))

-- an argument of a `sum` is a number or a set
abbrev pub ArgRoom : Type 0
ArgRoom = RoomTest ⊎ SetRoom

abbrev pub arg_room : args.Arg-F ArgRoom RoomTest RoomTest SetRoom → ArgRoom
arg_room (args.Arg-F.One n) = inl n
arg_room (args.Arg-F.Many set) = inr set

-- an argument of a `sum` whose object type has so many members
abbrev pub term_room : Model → ArgRoom → (count : ℕ) → RoomTest
term_room m (inl n) count given room = n given room
term_room m (inr set) count given room = (count_of m set.0 == count) && set.1 given room

-- The arguments of a `sum`, as many as the table has: each is held as a set while those behind it are evaluated.
abbrev pub sum_fits : Model → List ℕ → List ArgRoom → RoomTest
sum_fits m [] [] given room = true
sum_fits m [] (term ∷ terms) given room = false
sum_fits m (count ∷ counts) [] given room = false
sum_fits m (count ∷ counts) (term ∷ terms) given room =
    nat_le (word_count count) room && (term_room m term count given (room - word_count count) && sum_fits m counts terms given (room - word_count count))

-- a condition with one more parameter, whose values are written before it is tested
abbrev pub more_fits : RoomTest → RoomTest
more_fits c given room = nat_le (given + 1) room && c (given + 1) (room - (given + 1))

abbrev pub cond_room : Model → conds.Cond-F ArgRoom RoomTest RoomTest SetRoom → RoomTest
cond_room m (conds.Cond-F.Cond::Fixed b) given room = true
cond_room m (conds.Cond-F.Cond::Cell t ns) given room = list_all (λ (n : RoomTest). n given room) ns
cond_room m (conds.Cond-F.Numbers op a b) given room = a given room && b given room
cond_room m (conds.Cond-F.SameSet a b) given room = both_fit m a b given room
cond_room m (conds.Cond-F.OtherSet a b) given room = both_fit m a b given room
cond_room m (conds.Cond-F.IsIn n a) given room = n given room && operand_fits m a given room
cond_room m (conds.Cond-F.Subset a b) given room = both_fit m a b given room
cond_room m (conds.Cond-F.Empty a) given room = operand_fits m a given room
cond_room m (conds.Cond-F.Cond::Not c) given room = c given room
cond_room m (conds.Cond-F.And a b) given room = a given room && b given room
cond_room m (conds.Cond-F.Or a b) given room = a given room && b given room
cond_room m (conds.Cond-F.Cond::If c a b) given room = c given room && (a given room && b given room)
cond_room m (conds.Cond-F.All over c) given room = over_fits m over && more_fits c given room

abbrev pub num_room : Model → nums.Num-F ArgRoom RoomTest RoomTest SetRoom → RoomTest
num_room m (nums.Num-F.Num::Fixed n) given room = true
num_room m (nums.Num-F.Num::Var v) given room = is_number_kind (kind_at m.variables v)
num_room m (nums.Num-F.Param p) given room = nat_lt p given
num_room m (nums.Num-F.Num::Cell t ns) given room = list_all (λ (n : RoomTest). n given room) ns
num_room m (nums.Num-F.Sum t terms) given room = sum_fits m (table_counts m t) terms given room
num_room m (nums.Num-F.Size a) given room = operand_fits m a given room
num_room m (nums.Num-F.Num::Op op a b) given room = a given room && b given room
num_room m (nums.Num-F.Num::If c a b) given room = c given room && (a given room && b given room)

abbrev pub set_room : Model → sets.SetEx-F ArgRoom RoomTest RoomTest SetRoom → SetRoom
set_room m (sets.SetEx-F.SetEx::Var v) = (object_of_kind (kind_of m v), λ given room. is_set_kind (kind_at m.variables v))
set_room m (sets.SetEx-F.SetEx::Cell t ns) = (cells_object (cells_of m t), λ given room. list_all (λ (n : RoomTest). n given room) ns)
set_room m (sets.SetEx-F.SetEx::Op op a b) = (a.0, λ given room. a.1 given room && ((a.0 == b.0) && operand_fits m b given room))
set_room m (sets.SetEx-F.SetEx::Not a) = a
set_room m (sets.SetEx-F.With n a) = (a.0, λ given room. n given room && a.1 given room)
set_room m (sets.SetEx-F.Without n a) = (a.0, λ given room. n given room && a.1 given room)
set_room m (sets.SetEx-F.SetEx::If c a b) = (a.0, λ given room. c given room && (a.1 given room && ((a.0 == b.0) && b.1 given room)))

abbrev pub num_fits : Model → nums.Num → RoomTest
num_fits m = nums.fold-Num ArgRoom RoomTest RoomTest SetRoom arg_room (cond_room m) (num_room m) (set_room m)

abbrev pub set_fits : Model → sets.SetEx → SetRoom
set_fits m = sets.fold-SetEx ArgRoom RoomTest RoomTest SetRoom arg_room (cond_room m) (num_room m) (set_room m)

abbrev pub cond_fits : Model → conds.Cond → RoomTest
cond_fits m = conds.fold-Cond ArgRoom RoomTest RoomTest SetRoom arg_room (cond_room m) (num_room m) (set_room m)

-- each of some numbers
abbrev pub all_fit : Model → List nums.Num → RoomTest
all_fit m ns given room = list_all (λ (n : RoomTest). n given room) (map (num_fits m) ns)

abbrev pub arg_fits : Model → args.Arg → ArgRoom
arg_fits m = args.fold-Arg ArgRoom RoomTest RoomTest SetRoom arg_room (cond_room m) (num_room m) (set_room m)

-- the arguments of a `sum` over a table whose arguments have these counts
abbrev pub terms_fit : Model → List ℕ → List args.Arg → RoomTest
terms_fit m counts terms = sum_fits m counts (map (arg_fits m) terms)
