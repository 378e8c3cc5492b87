-- What is known of a number or a variable by itself: the ends of its values, and whether it is no greater, or no less, where the resources are better.
use Rattle.std.specs.Prelude.{◌≡◌, ℕ, Bool, true, false, List, Ok, IsTrue, ℤ, ◌≤ℤ◌}
use Rattle.dp_model.specs.Costs.{InRange}
use Rattle.dp_model.specs.Evaluation.{num_value, number_in}
use Rattle.dp_model.specs.Typing.{is_state}
use Rattle.dp_model.specs.declared.trees.Num.{Num}
use Rattle.dp_model.specs.declared.trees.NumOp.{NumOp}
use Rattle.dp_model.specs.declared.trees.NumOp.TheVariants as number_operations
use Rattle.dp_model.specs.declared.parts.PlainState.{PlainState}
use Rattle.dp_model.specs.declared.whole.Model.{Model}
use Rattle.honest_preferences.specs.Signs.{HasEnds, IsPair}

-- no value of the number lies below
abbrev pub IsLow : Model → Num → (low : ℤ) → Type 0
IsLow m e low = (s : PlainState) (given : List ℕ) (z : ℤ) → num_value m s e given ≡ Ok z → low ≤ℤ z

-- none lies above
abbrev pub IsHigh : Model → Num → (high : ℤ) → Type 0
IsHigh m e high = (s : PlainState) (given : List ℕ) (z : ℤ) → num_value m s e given ≡ Ok z → z ≤ℤ high

-- the results that are tested to be in range
abbrev pub is_tested : NumOp → Bool
is_tested number_operations.Plus = true
is_tested number_operations.Minus = true
is_tested number_operations.Times = true
is_tested number_operations.Over = true
is_tested number_operations.Rest = true
is_tested number_operations.Most = false
is_tested number_operations.Least = false

-- each value of the number is in range, in each model
abbrev pub IsRanged : Num → Type 0
IsRanged e = (m : Model) (s : PlainState) (given : List ℕ) (z : ℤ) → num_value m s e given ≡ Ok z → InRange z

-- no state within the ends holds less in the variable
abbrev pub IsLowEnd : Model → List Bool → List ℤ → ℕ → (low : ℤ) → Type 0
IsLowEnd m kept ends v low = (s : PlainState) → IsTrue (is_state m.objects m.variables s) → HasEnds m kept ends s → low ≤ℤ number_in s v

-- none holds more
abbrev pub IsHighEnd : Model → List Bool → List ℤ → ℕ → (high : ℤ) → Type 0
IsHighEnd m kept ends v high = (s : PlainState) → IsTrue (is_state m.objects m.variables s) → HasEnds m kept ends s → number_in s v ≤ℤ high

-- the variable holds no more in the better state
abbrev pub HoldsNoMore : Model → List Bool → List ℤ → ℕ → Type 0
HoldsNoMore m kept ends v = (s other : PlainState) → IsPair m kept ends s other → number_in s v ≤ℤ number_in other v

abbrev pub HoldsNoLess : Model → List Bool → List ℤ → ℕ → Type 0
HoldsNoLess m kept ends v = (s other : PlainState) → IsPair m kept ends s other → number_in other v ≤ℤ number_in s v

-- Where the number has a value in the other state, it has one in the better state that is no greater.
abbrev pub IsNoGreater : Model → List Bool → List ℤ → Num → Type 0
IsNoGreater m kept ends e =
    (s other : PlainState) → IsPair m kept ends s other → (given : List ℕ) (z' : ℤ) → num_value m other e given ≡ Ok z' → (z : ℤ) × (num_value m s e given ≡ Ok z) × (z ≤ℤ z')

-- The same with no less in the better state.
abbrev pub IsNoLess : Model → List Bool → List ℤ → Num → Type 0
IsNoLess m kept ends e =
    (s other : PlainState) → IsPair m kept ends s other → (given : List ℕ) (z' : ℤ) → num_value m other e given ≡ Ok z' → (z : ℤ) × (num_value m s e given ≡ Ok z) × (z' ≤ℤ z)
