-- Which ground transitions a look at one variable leaves.
use Rattle.std.specs.Prelude.{◌≡◌, ℕ, ◌+◌, ◌<◌, ◌≤◌, true, false, List, length, slice_get, Some, Ok, ℤ, pos, ◌+ℤ◌}
use Rattle.dp_model.specs.Evaluation.{cond_value, number_in}
use Rattle.dp_model.specs.Typing.{is_number_kind, kind_at}
use Rattle.dp_model.specs.declared.parts.PlainState.{PlainState}
use Rattle.dp_model.specs.declared.trees.Cond.{Cond}
use Rattle.dp_model.specs.declared.whole.Model.{Model}
use Rattle.spot_eval.specs.Moves.{number_enabled}
use Rattle.cert_check.specs.declared.wants.Leap.{Leap}
use Rattle.cert_check.specs.declared.wants.Row.{Row}

-- the condition fails in each state in which the variable has another number
abbrev pub FailsElse : Cond → (given : List ℕ) → (v : ℕ) → ℤ → Type 0
FailsElse c given v n = (m : Model) (s : PlainState) → (number_in s v ≡ n → ⊥) → cond_value m s c given ≡ Ok false

-- a ground transition is enabled in no state in which the variable has another number
abbrev pub Wants : Model → (v : ℕ) → ℤ → (g : ℕ) → Type 0
Wants m v n g = (s : PlainState) → (number_in s v ≡ n → ⊥) → number_enabled m s g ≡ Ok false

-- from the place on, so many ground transitions want a number each: the row's, the one after it, and so on
pub record IsRow (m : Model) (place : ℕ) (row : Row) : Type 0 where
  pub within : place + row.count ≤ length m.dp_ground
  pub kind : 0 < row.count → is_number_kind (kind_at m.variables row.variable) ≡ true
  pub wants : (j : ℕ) → j < row.count → Wants m row.variable (row.number +ℤ pos j) (place + j)

-- each ground transition has its row
pub record AreRows (m : Model) (rows : List Row) : Type 0 where
  pub many : length rows ≡ length m.dp_ground
  pub are : (place : ℕ) (row : Row) → slice_get rows place ≡ Some row → IsRow m place row

-- Of the ground transitions from a place up to the next one that is looked at, none is enabled but the one that is picked.
pub record LeavesOne (m : Model) (s : PlainState) (place : ℕ) (leap : Leap) : Type 0 where
  pub later : place < leap.next
  pub within : leap.next ≤ length m.dp_ground
  pub picked : (k : ℕ) → leap.pick ≡ Some k → (place ≤ k) × (k < leap.next)
  pub others : (k : ℕ) → place ≤ k → k < leap.next → (leap.pick ≡ Some k → ⊥) → number_enabled m s k ≡ Ok false
