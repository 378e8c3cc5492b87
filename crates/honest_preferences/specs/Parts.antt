-- What is asked of each base case and of each transition.
use Rattle.std.specs.Prelude.{◌≡◌, Bool, true, List, Option, Some, None, Ok, ℤ, ⊤}
use Rattle.dp_model.specs.declared.parts.BaseCase.{BaseCase}
use Rattle.dp_model.specs.declared.parts.PlainState.{PlainState}
use Rattle.dp_model.specs.declared.parts.Transition.{Transition}
use Rattle.dp_model.specs.declared.whole.Model.{Model}
use Rattle.dp_steps.specs.States.{case_cost}
use Rattle.dp_claims.specs.Honest.{IsNotBetter}
use Rattle.honest_preferences.specs.Signs.{IsPair}
use Rattle.honest_preferences.specs.Answering.{Answers, IsAlike, KeepsEnds}

-- no cost in place of none, or one that is no worse in place of one
abbrev pub IsNoWorse : Model → (cost other : Option ℤ) → Type 0
IsNoWorse m None None = ⊤
IsNoWorse m None (Some d) = ⊥
IsNoWorse m (Some c) None = ⊥
IsNoWorse m (Some c) (Some d) = IsNotBetter m d c

-- The base case is satisfied in both states or in neither, at a cost that is no worse in the better one.
abbrev pub IsAnswered : Model → List Bool → List ℤ → BaseCase → Type 0
IsAnswered m kept ends b = (s other : PlainState) → IsPair m kept ends s other → (d : Option ℤ) → case_cost m other b ≡ Ok d → (c : Option ℤ) × (case_cost m s b ≡ Ok c) × IsNoWorse m c d

-- The better state answers the transition, and it leads to states within the ends. Where it is forced, it is enabled in both states or in neither.
pub record IsFollowed (m : Model) (kept : List Bool) (ends : List ℤ) (t : Transition) : Type 0 where
  pub answers : Answers m kept ends t
  pub stays : KeepsEnds m kept ends t
  pub alike : t.forced ≡ true → IsAlike m kept ends t
