-- How numbers and conditions change where the resources of a state are better: by the kept preferences, with all else the same.
use Rattle.std.specs.Prelude.{◌≡◌, ℕ, Bool, true, List, slice_get, Some, Result, Ok, IsTrue, ℤ, ◌≤ℤ◌, ⊤}
use Rattle.dp_base.specs.Results.{◌>>=◌}
use Rattle.dp_model.specs.Evaluation.{cond_value, num_value, number_in, operate}
use Rattle.dp_model.specs.Typing.{is_state}
use Rattle.dp_model.specs.declared.trees.Cond.{Cond}
use Rattle.dp_model.specs.declared.answers.FaultKind.{FaultKind}
use Rattle.dp_model.specs.declared.trees.Num.{Num}
use Rattle.dp_model.specs.declared.trees.NumOp.{NumOp}
use Rattle.dp_model.specs.declared.parts.PlainState.{PlainState}
use Rattle.dp_model.specs.declared.parts.Preference.{Preference}
use Rattle.dp_model.specs.declared.parts.Preference.TheVariants.{Without, Less, Greater}
use Rattle.dp_model.specs.declared.parts.Variable.{Variable}
use Rattle.dp_model.specs.declared.whole.Model.{Model}
use Rattle.dp_claims.specs.Dominance.{DominatesIn}
use Rattle.kept_model.specs.Parts.{variables_with}
use Rattle.honest_preferences.specs.Leaving.{is_kept}

-- A resource is not beyond its end: not below it where less is preferred, and not above it where greater is.
abbrev pub IsOnSide : Preference → (end z : ℤ) → Type 0
IsOnSide Without end z = ⊤
IsOnSide Less end z = end ≤ℤ z
IsOnSide Greater end z = z ≤ℤ end

-- No variable with a kept preference is beyond its end in the state.
abbrev pub HasEnds : Model → List Bool → List ℤ → PlainState → Type 0
HasEnds m kept ends s = (v : ℕ) (x : Variable) (end : ℤ) → slice_get m.variables v ≡ Some x → is_kept kept v ≡ true → slice_get ends v ≡ Some end → IsOnSide x.preference end (number_in s v)

-- Two states of the model within the ends, of which the first is at least as good as the other by the kept preferences.
pub record IsPair (m : Model) (kept : List Bool) (ends : List ℤ) (s other : PlainState) : Type 0 where
  pub state : IsTrue (is_state m.objects m.variables s)
  pub other_state : IsTrue (is_state m.objects m.variables other)
  pub within : HasEnds m kept ends s
  pub other_within : HasEnds m kept ends other
  pub better : DominatesIn (variables_with kept m.variables) s.values other.values

-- Where the number has a value in the other state, it has one in the better state that is no greater, and not below the end.
abbrev pub Falls : Model → List Bool → List ℤ → Num → (low : ℤ) → Type 0
Falls m kept ends e low =
    (s other : PlainState) → IsPair m kept ends s other → (given : List ℕ) (z' : ℤ) → num_value m other e given ≡ Ok z' → (z : ℤ) × (num_value m s e given ≡ Ok z) × (z ≤ℤ z') × (low ≤ℤ z)

-- The same with no less in the better state, and not above the end.
abbrev pub Rises : Model → List Bool → List ℤ → Num → (high : ℤ) → Type 0
Rises m kept ends e high =
    (s other : PlainState) → IsPair m kept ends s other → (given : List ℕ) (z' : ℤ) → num_value m other e given ≡ Ok z' → (z : ℤ) × (num_value m s e given ≡ Ok z) × (z' ≤ℤ z) × (z ≤ℤ high)

-- The same of an operation on two numbers.

abbrev pub operated : Model → PlainState → NumOp → (a b : Num) → List ℕ → Result ℤ FaultKind
operated m s op a b given = num_value m s a given >>= λ x. num_value m s b given >>= λ y. operate op x y

abbrev pub FallsBy : Model → List Bool → List ℤ → NumOp → (a b : Num) → (low : ℤ) → Type 0
FallsBy m kept ends op a b low =
    (s other : PlainState) → IsPair m kept ends s other → (given : List ℕ) (z' : ℤ) → operated m other op a b given ≡ Ok z' → (z : ℤ) × (operated m s op a b given ≡ Ok z) × (z ≤ℤ z') × (low ≤ℤ z)

abbrev pub RisesBy : Model → List Bool → List ℤ → NumOp → (a b : Num) → (high : ℤ) → Type 0
RisesBy m kept ends op a b high =
    (s other : PlainState) → IsPair m kept ends s other → (given : List ℕ) (z' : ℤ) → operated m other op a b given ≡ Ok z' → (z : ℤ) × (operated m s op a b given ≡ Ok z) × (z' ≤ℤ z) × (z ≤ℤ high)

-- Where the condition is true in the other state, so it is in the better one.
abbrev pub Eases : Model → List Bool → List ℤ → Cond → Type 0
Eases m kept ends c = (s other : PlainState) → IsPair m kept ends s other → (given : List ℕ) → cond_value m other c given ≡ Ok true → cond_value m s c given ≡ Ok true
