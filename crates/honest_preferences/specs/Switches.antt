-- Switches: transitions that a better state need not take, as it is already where they lead.
use Rattle.std.specs.Prelude.{◌≡◌, ℕ, Bool, true, List, map, slice_get, Option, Some, Ok, IsTrue, ℤ, ◌≤ℤ◌}
use Rattle.std.specs.Ordering.{int_eq}
use Rattle.dp_model.specs.Evaluation.{cond_value, kind_of, num_value, number_in}
use Rattle.dp_model.specs.Typing.{is_state}
use Rattle.dp_model.specs.declared.trees.Cond.{Cond}
use Rattle.dp_model.specs.declared.trees.Num.{Num}
use Rattle.dp_model.specs.declared.parts.Effect.{Effect}
use Rattle.dp_model.specs.declared.parts.PlainState.{PlainState}
use Rattle.dp_model.specs.declared.parts.PlainValue.{PlainValue}
use Rattle.dp_model.specs.declared.parts.PlainValue.TheVariants as values
use Rattle.dp_model.specs.declared.parts.Preference.TheVariants.{Greater}
use Rattle.dp_model.specs.declared.parts.Transition.{Transition}
use Rattle.dp_model.specs.declared.parts.VarKind.TheVariants as kinds
use Rattle.dp_model.specs.declared.parts.Variable.{Variable}
use Rattle.dp_model.specs.declared.whole.Model.{Model}
use Rattle.dp_steps.specs.States.{effect_value, weight_of}
use Rattle.part_laws.specs.OneStep.{IsFree}
use Rattle.honest_preferences.specs.Effects.{AnswersEffects, AnswersWeight}
use Rattle.honest_preferences.specs.Leaving.{all_leave, is_kept, over_leaves}
use Rattle.honest_preferences.specs.Signs.{HasEnds, IsPair}

-- The condition says that the variable holds this number.
abbrev pub IsTest : Model → Cond → ℕ → ℤ → Type 0
IsTest m c v n = (s : PlainState) (given : List ℕ) → cond_value m s c given ≡ Ok (int_eq (number_in s v) n)

-- It says so of an integer variable of which more is preferred, and whose preference is kept.
pub record IsSwitch (m : Model) (kept : List Bool) (c : Cond) (v : ℕ) (n : ℤ) : Type 0 where
  pub variable : Variable
  pub there : slice_get m.variables v ≡ Some variable
  pub greater : variable.preference ≡ Greater
  pub integer : kind_of m v ≡ kinds.Integer
  pub keeps : is_kept kept v ≡ true
  pub test : IsTest m c v n

-- the same of one of some conditions
abbrev pub HasSwitch : Model → List Bool → List Cond → ℕ → ℤ → Type 0
HasSwitch m kept conditions v n = (i : ℕ) × (c : Cond) × (slice_get conditions i ≡ Some c) × IsSwitch m kept c v n

-- Where both states hold the same in the variable and the condition is true in the other state, so it is in the better one.
abbrev pub EasesAt : Model → List Bool → List ℤ → ℕ → Cond → Type 0
EasesAt m kept ends v c = (s other : PlainState) → IsPair m kept ends s other → number_in s v ≡ number_in other v → (given : List ℕ) → cond_value m other c given ≡ Ok true → cond_value m s c given ≡ Ok true

abbrev pub AllEaseAt : Model → List Bool → List ℤ → ℕ → List Cond → Type 0
AllEaseAt m kept ends v conditions = (i : ℕ) (c : Cond) → slice_get conditions i ≡ Some c → EasesAt m kept ends v c

-- An effect sets this variable, to no more than a limit.
abbrev pub SetsUpTo : Model → List Bool → List ℤ → ℕ → (limit : ℤ) → Effect → Type 0
SetsUpTo m kept ends v limit e =
    (s : PlainState) → IsTrue (is_state m.objects m.variables s) → HasEnds m kept ends s → (args : List ℕ) (change : ℕ × PlainValue) → effect_value m s args e ≡ Ok change → (n : ℤ) × ((v, values.Number n) ≡ change) × (n ≤ℤ limit)

abbrev pub AllSetUpTo : Model → List Bool → List ℤ → ℕ → (limit : ℤ) → List Effect → Type 0
AllSetUpTo m kept ends v limit effects = (i : ℕ) (e : Effect) → slice_get effects i ≡ Some e → SetsUpTo m kept ends v limit e

-- A step by the transition costs nothing that it would be better to save.
abbrev pub FreeToLeave : Model → List Bool → List ℤ → Transition → Type 0
FreeToLeave m kept ends t =
    (s : PlainState) → IsTrue (is_state m.objects m.variables s) → HasEnds m kept ends s → (args : List ℕ) (weight : Option ℤ) → weight_of m s (t, args) ≡ Ok weight → IsFree m weight

abbrev pub IsFreeBy : Model → List Bool → List ℤ → Num → Type 0
IsFreeBy m kept ends e = (s : PlainState) → IsTrue (is_state m.objects m.variables s) → HasEnds m kept ends s → (args : List ℕ) (w : ℤ) → num_value m s e args ≡ Ok w → IsFree m (Some w)

-- The transition is answered where both states hold the same in the variable, sets it alone and to no more than the limit, and costs nothing to leave out.
pub record IsRaise (m : Model) (kept : List Bool) (ends : List ℤ) (t : Transition) (v : ℕ) (limit : ℤ) : Type 0 where
  pub params : all_leave (map (over_leaves kept) t.params) ≡ true
  pub conditions : AllEaseAt m kept ends v t.preconditions
  pub effects : AnswersEffects m kept ends t.effects
  pub weight : AnswersWeight m kept ends t
  pub sets : AllSetUpTo m kept ends v limit t.effects
  pub free : FreeToLeave m kept ends t
