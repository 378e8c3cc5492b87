-- What the parts of a transition have to be, each for itself, so that a better state answers the transition.
use Rattle.std.specs.Prelude.{◌≡◌, ℕ, zero, suc, Bool, true, List, [], ◌∷◌, slice_get, Option, Some, Ok, IsTrue, ℤ}
use Rattle.dp_model.specs.Evaluation.{num_value, number_held, number_in}
use Rattle.dp_model.specs.Typing.{is_state}
use Rattle.dp_model.specs.declared.trees.Num.{Num}
use Rattle.dp_model.specs.declared.parts.Effect.{Effect}
use Rattle.dp_model.specs.declared.parts.PlainState.{PlainState}
use Rattle.dp_model.specs.declared.parts.PlainValue.{PlainValue}
use Rattle.dp_model.specs.declared.parts.Transition.{Transition}
use Rattle.dp_model.specs.declared.parts.Variable.{Variable}
use Rattle.dp_model.specs.declared.whole.Model.{Model}
use Rattle.dp_steps.specs.States.{effect_value, is_enabled, next_state, weight_of}
use Rattle.dp_claims.specs.Dominance.{AtLeast}
use Rattle.dp_claims.specs.Honest.{IsNotBetter}
use Rattle.kept_model.specs.Parts.{variables_with}
use Rattle.part_laws.specs.OneStep.{IsLighter}
use Rattle.honest_preferences.specs.Answering.{AnswersIn}
use Rattle.honest_preferences.specs.Leaving.{is_kept}
use Rattle.honest_preferences.specs.Signs.{HasEnds, IsOnSide, IsPair}

-- A value of this variable is at least as good as another. Past the last variable it is the same.
abbrev pub AtLeastAt : List Variable → ℕ → PlainValue → PlainValue → Type 0
AtLeastAt [] v x y = x ≡ y
AtLeastAt (w ∷ vs) zero x y = AtLeast w.preference x y
AtLeastAt (w ∷ vs) (suc v) x y = AtLeastAt vs v x y

-- Where the effect has a value in the other state, the better state sets the same variable to a value that is at least as good.
abbrev pub AnswersEffect : Model → List Bool → List ℤ → Effect → Type 0
AnswersEffect m kept ends e =
    (s other : PlainState) → IsPair m kept ends s other → (args : List ℕ) (change : ℕ × PlainValue) → effect_value m other args e ≡ Ok change
    → (x : PlainValue) × (effect_value m s args e ≡ Ok (change.0, x)) × AtLeastAt (variables_with kept m.variables) change.0 x change.1

abbrev pub AnswersEffects : Model → List Bool → List ℤ → List Effect → Type 0
AnswersEffects m kept ends effects = (i : ℕ) (e : Effect) → slice_get effects i ≡ Some e → AnswersEffect m kept ends e

-- Where the number has a value in the other state, it has one in the better state that is no worse as a cost.
abbrev pub CostsNoMore : Model → List Bool → List ℤ → Num → Type 0
CostsNoMore m kept ends e =
    (s other : PlainState) → IsPair m kept ends s other → (given : List ℕ) (z' : ℤ) → num_value m other e given ≡ Ok z' → (z : ℤ) × (num_value m s e given ≡ Ok z) × IsNotBetter m z' z

-- The weight is no worse in the better state.
abbrev pub AnswersWeight : Model → List Bool → List ℤ → Transition → Type 0
AnswersWeight m kept ends t =
    (s other : PlainState) → IsPair m kept ends s other → (args : List ℕ) (other_weight : Option ℤ) → weight_of m other (t, args) ≡ Ok other_weight
    → (weight : Option ℤ) × (weight_of m s (t, args) ≡ Ok weight) × IsLighter m weight other_weight

-- The same step of a better state answers the step.
abbrev pub Moves : Model → List Bool → List ℤ → Transition → Type 0
Moves m kept ends t =
    (s other : PlainState) → IsPair m kept ends s other → (args : List ℕ) (weight : Option ℤ) (next : PlainState) → is_enabled m other (t, args) ≡ Ok true → weight_of m other (t, args) ≡ Ok weight → next_state m other (t, args) ≡ Ok next
    → AnswersIn m kept t s args weight next

-- A resource is not set to what is beyond its end.
abbrev pub IsWithin : Model → List Bool → List ℤ → ℕ × PlainValue → Type 0
IsWithin m kept ends change = (x : Variable) (end : ℤ) → slice_get m.variables change.0 ≡ Some x → is_kept kept change.0 ≡ true → slice_get ends change.0 ≡ Some end → IsOnSide x.preference end (number_held (Some change.1))

abbrev pub StaysWithin : Model → List Bool → List ℤ → Effect → Type 0
StaysWithin m kept ends e = (s : PlainState) → IsTrue (is_state m.objects m.variables s) → HasEnds m kept ends s → (args : List ℕ) (change : ℕ × PlainValue) → effect_value m s args e ≡ Ok change → IsWithin m kept ends change

-- A variable is not beyond an end in a state.
abbrev pub IsAtEnd : Model → PlainState → ℕ → (end : ℤ) → Type 0
IsAtEnd m s v end = (x : Variable) → slice_get m.variables v ≡ Some x → IsOnSide x.preference end (number_in s v)

abbrev pub IsWithinAt : Model → List ℤ → PlainState → ℕ → Type 0
IsWithinAt m ends s v = (x : Variable) (end : ℤ) → slice_get m.variables v ≡ Some x → slice_get ends v ≡ Some end → IsOnSide x.preference end (number_in s v)
