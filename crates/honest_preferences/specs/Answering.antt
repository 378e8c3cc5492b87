-- What makes the kept preferences of a model a simulation: each step of a state is answered by the same step of a better one.
use Rattle.std.specs.Prelude.{◌≡◌, ℕ, Bool, true, ◌⊎◌, List, [], ◌∷◌, slice_get, Option, Some, Ok, IsTrue, ℤ, ⊤}
use Rattle.dp_model.specs.Typing.{is_state}
use Rattle.dp_model.specs.declared.trees.Cond.{Cond}
use Rattle.dp_model.specs.declared.parts.PlainState.{PlainState}
use Rattle.dp_model.specs.declared.parts.Transition.{Transition}
use Rattle.dp_model.specs.declared.whole.Model.{Model}
use Rattle.dp_steps.specs.States.{all_true, case_costs, is_enabled, next_state, weight_of}
use Rattle.dp_claims.specs.Dominance.{DominatesIn}
use Rattle.dp_claims.specs.Honest.{IsNotBetter}
use Rattle.kept_model.specs.Parts.{variables_with}
use Rattle.part_laws.specs.OneStep.{IsFree, IsLighter}
use Rattle.honest_preferences.specs.Signs.{HasEnds, IsPair}

-- conditions that are all true in a state are all true in a better one
abbrev pub AllEase : Model → List Bool → List ℤ → List Cond → Type 0
AllEase m kept ends conditions = (s other : PlainState) → IsPair m kept ends s other → (given : List ℕ) → all_true m other given conditions ≡ Ok true → all_true m s given conditions ≡ Ok true

-- the better state is enabled too, at a weight that is no worse, and leads to a state that is better again
pub record AnswersIn (m : Model) (kept : List Bool) (t : Transition) (s : PlainState) (args : List ℕ) (other_weight : Option ℤ) (other_next : PlainState) : Type 0 where
  pub weight : Option ℤ
  pub next : PlainState
  pub enabled : is_enabled m s (t, args) ≡ Ok true
  pub weighs : weight_of m s (t, args) ≡ Ok weight
  pub leads : next_state m s (t, args) ≡ Ok next
  pub lighter : IsLighter m weight other_weight
  pub better : DominatesIn (variables_with kept m.variables) next.values other_next.values

-- or the better state is as good as where the step leads, and the step costs nothing: then it need not move
abbrev pub StaysIn : Model → List Bool → PlainState → (other_weight : Option ℤ) → (other_next : PlainState) → Type 0
StaysIn m kept s other_weight other_next = DominatesIn (variables_with kept m.variables) s.values other_next.values × IsFree m other_weight

abbrev pub Answers : Model → List Bool → List ℤ → Transition → Type 0
Answers m kept ends t =
    (s other : PlainState) → IsPair m kept ends s other → (args : List ℕ) (weight : Option ℤ) (next : PlainState) → is_enabled m other (t, args) ≡ Ok true → weight_of m other (t, args) ≡ Ok weight → next_state m other (t, args) ≡ Ok next
    → AnswersIn m kept t s args weight next ⊎ StaysIn m kept s weight next

-- a transition leads to states within the ends
abbrev pub KeepsEnds : Model → List Bool → List ℤ → Transition → Type 0
KeepsEnds m kept ends t = (s : PlainState) → IsTrue (is_state m.objects m.variables s) → HasEnds m kept ends s → (args : List ℕ) (next : PlainState) → next_state m s (t, args) ≡ Ok next → HasEnds m kept ends next

-- a transition is enabled in both states or in neither
abbrev pub IsAlike : Model → List Bool → List ℤ → Transition → Type 0
IsAlike m kept ends t = (s other : PlainState) → IsPair m kept ends s other → (args : List ℕ) → is_enabled m s (t, args) ≡ is_enabled m other (t, args)

-- as many costs, of which none is worse than the one in its place
abbrev pub AreNoWorse : Model → (costs others : List ℤ) → Type 0
AreNoWorse m [] [] = ⊤
AreNoWorse m [] (d ∷ ds) = ⊥
AreNoWorse m (c ∷ cs) [] = ⊥
AreNoWorse m (c ∷ cs) (d ∷ ds) = IsNotBetter m d c × AreNoWorse m cs ds

-- the same base cases are satisfied in both states, at costs that are no worse in the better one
abbrev pub AreAnswered : Model → List Bool → List ℤ → Type 0
AreAnswered m kept ends =
    (s other : PlainState) → IsPair m kept ends s other → (others : List ℤ) → case_costs m other m.base_cases ≡ Ok others → (costs : List ℤ) × (case_costs m s m.base_cases ≡ Ok costs) × AreNoWorse m costs others

-- The target is within the ends and each transition stays there. Constraints ease, base cases and transitions are answered, and a forced transition is
-- enabled in both states or in neither.
pub record IsSimulation (m : Model) (kept : List Bool) (ends : List ℤ) : Type 0 where
  pub first : HasEnds m kept ends m.target
  pub stays : (i : ℕ) (t : Transition) → slice_get m.transitions i ≡ Some t → KeepsEnds m kept ends t
  pub allowed : AllEase m kept ends m.constraints
  pub cases : AreAnswered m kept ends
  pub answered : (i : ℕ) (t : Transition) → slice_get m.transitions i ≡ Some t → Answers m kept ends t
  pub forced : (i : ℕ) (t : Transition) → slice_get m.transitions i ≡ Some t → t.forced ≡ true → IsAlike m kept ends t
