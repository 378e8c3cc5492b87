-- Steps of a mode by a ground transition, as symbols.
use Rattle.std.specs.Prelude.{◌≡◌, ℕ, ◌<◌, ◌⊎◌, true, ⊤, List, length, map, Option, Some, None, IsTrue, ℤ}
use Rattle.dp_model.specs.Typing.{is_state}
use Rattle.dp_model.specs.declared.parts.PlainState.{PlainState}
use Rattle.dp_model.specs.declared.whole.Model.{Model}
use Rattle.dp_model.specs.declared.parts.Effect.{Effect}
use Rattle.dp_model.specs.declared.parts.Transition.{Transition}
use Rattle.dp_steps.specs.States.{IsForced, Step, with_changes}
use Rattle.poly_terms.specs.declared.terms.Term.{Term}
use Rattle.poly_terms.specs.Worth.{worth}
use Rattle.poly_terms.specs.Fits.{Fits}
use Rattle.poly_eval.specs.Shows.{Extends, Shows}
use Rattle.poly_eval.specs.declared.symbols.Symbol.{Symbol}
use Rattle.wide_steps.specs.Steps.{wide_effect, wide_weight}
use Rattle.honest_states.specs.Modes.{in_mode, in_narrowed}
use Rattle.honest_states.specs.declared.mode.Mode.{Mode}
use Rattle.honest_states.specs.declared.opening.Symbolic.{Symbolic}
use Rattle.honest_states.specs.declared.mode.Narrowed.{Narrowed}
use Rattle.honest_steps.specs.Views.{Begins}
use Rattle.honest_steps.specs.declared.moving.Move.{Move}

-- A weight is what a sum is worth; there is none exactly where there is no sum.
abbrev pub IsWeighed : (ℕ → ℤ) → Option (List Term) → Option ℤ → Type 0
IsWeighed v None None = ⊤
IsWeighed v (Some p) (Some w) = w ≡ worth v p
IsWeighed v None (Some w) = ⊥
IsWeighed v (Some p) None = ⊥

-- a step by this ground transition, from a state of the model that is in the mode
pub record StepsFrom (m : Model) (mode : Mode) (g : ℕ) (s : PlainState) (weight : Option ℤ) (next : PlainState) : Type 0 where
  pub state : IsTrue (is_state m.objects m.variables s)
  pub inside : in_mode mode s ≡ true
  pub step : Step m s g weight next

-- Where the symbols before a step show a state, those after it show the state where it leads, and the weight is weighed.
pub record IsMove (m : Model) (mode : Mode) (g : ℕ) (moved : Move) : Type 0 where
  pub begins : Begins mode moved.table.items moved.free moved.before.items
  pub leads : (s : PlainState) (weight : Option ℤ) (next : PlainState) (v : ℕ → ℤ) → IsTrue (is_state m.objects m.variables s) → Step m s g weight next → Fits moved.table.items v → Shows v moved.before.items s → Shows v moved.after.items next
  pub weighs : (s : PlainState) (weight : Option ℤ) (next : PlainState) (v : ℕ → ℤ) → IsTrue (is_state m.objects m.variables s) → Step m s g weight next → Fits moved.table.items v → Shows v moved.before.items s → IsWeighed v moved.weight weight

-- What is left of a mode has each of its states from which the ground transition makes a step.
abbrev pub Enters : Model → Mode → ℕ → Narrowed → Type 0
Enters m mode g left = (s : PlainState) (weight : Option ℤ) (next : PlainState) → StepsFrom m mode g s weight next → in_narrowed left s ≡ true

-- Symbols show a state with these effects, each of which is computed in the state.
abbrev pub ShowsChanged : Model → PlainState → List ℕ → List Effect → (ℕ → ℤ) → List Symbol → Type 0
ShowsChanged m s given effects v after = Shows v after (record { values = with_changes s.values (map (wide_effect m s given) effects) })

-- The same of a transition with these values of its parameters, in wide values, over the symbols that are handed in.
pub record IsMoveBy (m : Model) (symbolic : Symbolic) (t : Transition) (args : List ℕ) (moved : Move) : Type 0 where
  pub free : moved.free ≡ length symbolic.table.items
  pub before : moved.before.items ≡ symbolic.symbols.items
  pub grows : Extends symbolic.table.items moved.table.items
  pub leads : (s : PlainState) (v : ℕ → ℤ) → IsTrue (is_state m.objects m.variables s) → Fits moved.table.items v → Shows v moved.before.items s → ShowsChanged m s args t.effects v moved.after.items
  pub weighs : (s : PlainState) (v : ℕ → ℤ) → IsTrue (is_state m.objects m.variables s) → Fits moved.table.items v → Shows v moved.before.items s → IsWeighed v moved.weight (wide_weight m s (t, args))

-- The first ground transition is tested before the second, where it is forced.
abbrev pub GoesBefore : Model → ℕ → ℕ → Type 0
GoesBefore m f g = (f < g) ⊎ (IsForced m g → ⊥)
