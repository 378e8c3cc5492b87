-- Which candidates a look at one variable leaves.
use Rattle.std.specs.Prelude.{◌≡◌, ℕ, ◌+◌, ◌<◌, ◌≤◌, true, false, List, length, slice_get, Option, Some, Ok, ℤ, pos, ◌+ℤ◌}
use Rattle.dp_model.specs.Evaluation.{cond_value, number_in}
use Rattle.dp_model.specs.Typing.{is_number_kind, kind_at}
use Rattle.dp_model.specs.declared.parts.PlainState.{PlainState}
use Rattle.dp_model.specs.declared.trees.Cond.{Cond}
use Rattle.dp_model.specs.declared.whole.Model.{Model}
use Rattle.spot_eval.specs.Moves.{number_enabled}
use Rattle.successors.specs.declared.switches.Case.{Case}
use Rattle.successors.specs.declared.switches.Switch.{Switch}

-- the condition fails in each state in which the variable has another number
abbrev pub FailsElse : Cond → (given : List ℕ) → (v : ℕ) → ℤ → Type 0
FailsElse c given v n = (m : Model) (s : PlainState) → (number_in s v ≡ n → ⊥) → cond_value m s c given ≡ Ok false

-- a ground transition is enabled in no state in which the variable has another number
abbrev pub IsCase : Model → (v : ℕ) → ℤ → (g : ℕ) → Type 0
IsCase m v n g = (s : PlainState) → (number_in s v ≡ n → ⊥) → number_enabled m s g ≡ Ok false

-- from the place on, so many ground transitions are cases: of the number, of the one after it, and so on
pub record IsSwitch (m : Model) (numbers : List ℕ) (place : ℕ) (switch : Switch) : Type 0 where
  pub within : place + switch.count ≤ length numbers
  pub kind : 0 < switch.count → is_number_kind (kind_at m.variables switch.variable) ≡ true
  pub cases : (j g : ℕ) → j < switch.count → slice_get numbers (place + j) ≡ Some g → IsCase m switch.variable (switch.number +ℤ pos j) g

-- each switch is one from its own place on
abbrev pub AreSwitches : Model → List ℕ → List Switch → Type 0
AreSwitches m numbers switches = (place : ℕ) (switch : Switch) → slice_get switches place ≡ Some switch → IsSwitch m numbers place switch

-- Of the ground transitions from a place up to the next one that is looked at, none is enabled but the one that is picked.
pub record LeavesOne (m : Model) (s : PlainState) (numbers : List ℕ) (place : ℕ) (case : Case) : Type 0 where
  pub later : place < case.next
  pub within : case.next ≤ length numbers
  pub picked : (k : ℕ) → case.pick ≡ Some k → (place ≤ k) × (k < case.next)
  pub others : (k g : ℕ) → place ≤ k → k < case.next → (case.pick ≡ Some k → ⊥) → slice_get numbers k ≡ Some g → number_enabled m s g ≡ Ok false
