-- What is asked of each step of a mode by a ground transition.
use Rattle.std.specs.Prelude.{◌≡◌, ℕ, ◌<◌, Bool, true, if◌then◌else◌, List, [], length, slice_get, Option, Some, ℤ, ◌-ℤ◌}
use Rattle.dp_model.specs.Costs.{join_onto}
use Rattle.dp_model.specs.declared.trees.Num.{Num}
use Rattle.dp_model.specs.declared.parts.BaseCase.{BaseCase}
use Rattle.dp_model.specs.declared.parts.PlainState.{PlainState}
use Rattle.dp_model.specs.declared.whole.Model.{Model}
use Rattle.dp_steps.specs.States.{Inner}
use Rattle.dp_claims.specs.Honest.{IsNotBetter}
use Rattle.wide_values.specs.Wide.{wide_num}
use Rattle.wide_steps.specs.Steps.{all_hold}
use Rattle.honest_states.specs.Modes.{in_some}
use Rattle.honest_states.specs.declared.mode.Mode.{Mode}
use Rattle.honest_steps.specs.Moves.{StepsFrom}
use Rattle.honest_bounds.specs.declared.asking.Asked.{Asked}
use Rattle.honest_bounds.specs.declared.asking.Asked.TheVariants.{Stays, Bound}

-- how much a cost is worse than a bound, if it is
abbrev pub room_of : Bool → (cost bound : ℤ) → ℤ
room_of minimize cost bound = if minimize then cost -ℤ bound else bound -ℤ cost

-- each step to an inner state leads to one of the modes
abbrev pub StaysIn : Model → List Mode → Mode → ℕ → Type 0
StaysIn m modes mode g =
    (s : PlainState) (weight : Option ℤ) (next : PlainState) → StepsFrom m mode g s weight next → Inner m next → in_some modes next ≡ true

-- The weight of each step joined onto what one expression is worth where it leads is no better than what another one is worth before it.
abbrev pub Bears : Model → Mode → ℕ → (e other : Num) → Type 0
Bears m mode g e other =
    (s : PlainState) (weight : Option ℤ) (next : PlainState) → StepsFrom m mode g s weight next → IsNotBetter m (join_onto m.join weight (wide_num m next other [])) (wide_num m s e [])

-- the same for the cost of a base case, where that holds after the step
abbrev pub EndsBy : Model → Mode → ℕ → Num → BaseCase → Type 0
EndsBy m mode g e b =
    (s : PlainState) (weight : Option ℤ) (next : PlainState) → StepsFrom m mode g s weight next → all_hold m next [] m.constraints ≡ true → all_hold m next [] b.conditions ≡ true
    → IsNotBetter m (join_onto m.join weight (wide_num m next b.cost [])) (wide_num m s e [])

-- No step undercuts what the expression is worth: not where it ends, and not where it goes on.
pub record IsKept (m : Model) (mode : Mode) (g : ℕ) (e : Num) : Type 0 where
  pub ends : (i : ℕ) (b : BaseCase) → slice_get m.base_cases i ≡ Some b → EndsBy m mode g e b
  pub goes : (s : PlainState) (weight : Option ℤ) (next : PlainState) → StepsFrom m mode g s weight next → Inner m next → IsNotBetter m (join_onto m.join weight (wide_num m next e [])) (wide_num m s e [])

-- what is asked: that the modes are kept, or that a dual bound of the model is
abbrev pub IsShown : Model → List Mode → Asked → Mode → ℕ → Type 0
IsShown m modes Stays mode g = StaysIn m modes mode g
IsShown m modes (Bound i) mode g = (e : Num) → slice_get m.bounds i ≡ Some e → IsKept m mode g e

-- The target is in one of the modes, and each step to an inner state keeps them.
pub record AreInvariant (m : Model) (modes : List Mode) : Type 0 where
  pub first : in_some modes m.target ≡ true
  pub kept : (j : ℕ) (mode : Mode) (g : ℕ) → slice_get modes j ≡ Some mode → g < length m.dp_ground → StaysIn m modes mode g
