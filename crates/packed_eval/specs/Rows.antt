-- Comparisons along a row of a table, as the members of a `forall` see them. The member is one more parameter, behind those
-- that are in force.
use Rattle.std.specs.Prelude.{◌≡◌, ℕ, ◌+◌, ◌<◌, Bool, true, false, if◌then◌else◌, List, [], ◌∷◌, ◌++◌, slice_get, Option, Some, option_and_then, Ok, ℤ, pos, ◌+ℤ◌}
use Rattle.std.specs.Result.{result_ok}
use Rattle.dp_base.specs.Results.{◌>>=◌}
use Rattle.dp_model.specs.Costs.{ranged}
use Rattle.dp_model.specs.Evaluation.{cells_of, number_cell, operate, compares, num_value, cond_value}
use Rattle.dp_model.specs.declared.trees.NumOp.TheVariants.{Plus}
use Rattle.dp_model.specs.declared.trees.Num.{Num}
use Rattle.dp_model.specs.declared.trees.Cond.{Cond}
use Rattle.dp_model.specs.declared.parts.PlainState.{PlainState}
use Rattle.dp_model.specs.declared.whole.Model.{Model}
use Rattle.packed_words.specs.Operands.{at_operands, num_values}
use Rattle.packed_eval.specs.declared.rows.Side.{Side}
use Rattle.packed_eval.specs.declared.rows.Side.TheVariants.{Alone, Along}
use Rattle.packed_eval.specs.declared.rows.Sides.{Sides}

-- a number and the cell that a member names in a row, if it is there and their sum is in range
abbrev pub sum_at : ℤ → List ℤ → ℕ → Option ℤ
sum_at start row k = option_and_then (λ (cell : ℤ). result_ok (ranged (start +ℤ cell))) (slice_get row k)

-- what a side is for a member
abbrev pub side_at : Side → ℕ → Option ℤ
side_at (Alone n) k = Some n
side_at (Along start row) k = sum_at start row.now k

-- whether a comparison holds for a member, if both sides are there
abbrev pub met_by : Sides → ℕ → Option Bool
met_by sides k = option_and_then (λ (x : ℤ). option_and_then (λ (y : ℤ). Some (compares sides.op x y)) (side_at sides.right k)) (side_at sides.left k)

-- whether it holds for each of some members, up to the first for which it does not or a side is not there
abbrev pub all_met : Sides → List ℕ → Option Bool
all_met sides [] = Some true
all_met sides (k ∷ ks) = option_and_then (λ (held : Bool). if held then all_met sides ks else Some false) (met_by sides k)

-- a side stands for an expression: what it is for a member is the expression's value
abbrev pub IsSideOf : Model → PlainState → (given : List ℕ) → Num → Side → Type 0
IsSideOf m s given e side = (k : ℕ) (z : ℤ) → side_at side k ≡ Some z → num_value m s e (given ++ k ∷ []) ≡ Ok z

-- a side stands for the sum of two expressions
abbrev pub IsSumOf : Model → PlainState → (given : List ℕ) → Num → Num → Side → Type 0
IsSumOf m s given a b side = (k : ℕ) (z : ℤ) → side_at side k ≡ Some z → (num_value m s a (given ++ k ∷ []) >>= λ x. num_value m s b (given ++ k ∷ []) >>= λ y. operate Plus x y) ≡ Ok z

-- a comparison of two sides stands for a condition: whether it holds for a member is the condition's value
abbrev pub AreSidesOf : Model → PlainState → (given : List ℕ) → Cond → Sides → Type 0
AreSidesOf m s given c sides = (k : ℕ) (held : Bool) → met_by sides k ≡ Some held → cond_value m s c (given ++ k ∷ []) ≡ Ok held

-- an expression is this number, whatever the member
abbrev pub IsAlone : Model → PlainState → (given : List ℕ) → Num → ℤ → Type 0
IsAlone m s given e z = (k : ℕ) → num_value m s e (given ++ k ∷ []) ≡ Ok z

-- the cells of a row are those of a list from a place on, and at most so many
abbrev pub IsPart : List ℤ → (place count : ℕ) → List ℤ → Type 0
IsPart cells place count row = (k : ℕ) (cell : ℤ) → slice_get row k ≡ Some cell → (k < count) × (slice_get cells (place + k) ≡ Some cell)

-- the cells of a row are those of a table whose last argument is the member, behind these numbers
abbrev pub HasCells : Model → (t : ℕ) → List ℤ → List ℤ → Type 0
HasCells m t first row = (k : ℕ) (cell : ℤ) → slice_get row k ≡ Some cell → at_operands m t (number_cell (cells_of m t)) (Ok (first ++ pos k ∷ [])) ≡ Ok cell

-- the cells of a row are those of a table that these arguments name, of which the last is the member
abbrev pub IsRowOf : Model → PlainState → (given : List ℕ) → (t : ℕ) → List Num → List ℤ → Type 0
IsRowOf m s given t ns row = (k : ℕ) (cell : ℤ) → slice_get row k ≡ Some cell → at_operands m t (number_cell (cells_of m t)) (num_values m s ns (given ++ k ∷ [])) ≡ Ok cell
