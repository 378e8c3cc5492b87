-- Inner and base states, and steps, in wide values.
use Rattle.std.specs.Prelude.{◌≡◌, ℕ, ◌<◌, true, false, ◌⊎◌, List, [], slice_get, Option, Some, IsTrue, ℤ}
use Rattle.dp_model.specs.StepTexts.{ground_of}
use Rattle.dp_model.specs.Typing.{is_state}
use Rattle.dp_model.specs.declared.parts.BaseCase.{BaseCase}
use Rattle.dp_model.specs.declared.parts.Transition.{Transition}
use Rattle.dp_model.specs.declared.parts.PlainState.{PlainState}
use Rattle.dp_model.specs.declared.whole.Model.{Model}
use Rattle.dp_steps.specs.States.{Base, Inner, IsForced, Step}
use Rattle.wide_values.specs.Wide.{wide_num}
use Rattle.wide_steps.specs.Steps.{all_hold, may_go, wide_next, wide_weight}

-- a base case of the model whose conditions hold, and what it costs
pub record CostsBy (m : Model) (s : PlainState) (cost : ℤ) : Type 0 where
  pub place : ℕ
  pub base_case : BaseCase
  pub there : slice_get m.base_cases place ≡ Some base_case
  pub holds : all_hold m s [] base_case.conditions ≡ true
  pub cost_is : cost ≡ wide_num m s base_case.cost []

pub record LawWideSteps : Type 0 where
  -- the constraints hold, and no base case does
  pub inner_allowed : (m : Model) (s : PlainState) → Inner m s → all_hold m s [] m.constraints ≡ true
  pub inner_open : (m : Model) (s : PlainState) (i : ℕ) (b : BaseCase) → Inner m s → slice_get m.base_cases i ≡ Some b → all_hold m s [] b.conditions ≡ false
  -- the constraints hold, and a base case that does has the cost
  pub base_allowed : (m : Model) (s : PlainState) (cost : ℤ) → Base m s cost → all_hold m s [] m.constraints ≡ true
  pub base_costs : (m : Model) (s : PlainState) (cost : ℤ) → Base m s cost → CostsBy m s cost
  -- the transition may go; what it weighs, and where it leads
  pub goes : (m : Model) (s : PlainState) (g : ℕ) (weight : Option ℤ) (next : PlainState) (t : Transition × List ℕ) → Step m s g weight next → ground_of m g ≡ Some t → may_go m s t ≡ true
  pub weighs : (m : Model) (s : PlainState) (g : ℕ) (weight : Option ℤ) (next : PlainState) (t : Transition × List ℕ) → Step m s g weight next → ground_of m g ≡ Some t → weight ≡ wide_weight m s t
  pub leads : (m : Model) (s : PlainState) (g : ℕ) (weight : Option ℤ) (next : PlainState) (t : Transition × List ℕ) → Step m s g weight next → ground_of m g ≡ Some t → next.values ≡ wide_next m s t
  -- a forced transition that is tested before it may not
  pub considered : (m : Model) (s : PlainState) (g : ℕ) (weight : Option ℤ) (next : PlainState) (f : ℕ) (t : Transition × List ℕ) → Step m s g weight next → ground_of m f ≡ Some t → t.0.forced ≡ true → (f < g) ⊎ (IsForced m g → ⊥) → may_go m s t ≡ false
  -- it leads to a state of the model
  pub state : (m : Model) (s : PlainState) (g : ℕ) (weight : Option ℤ) (next : PlainState) → Step m s g weight next → IsTrue (is_state m.objects m.variables s) → IsTrue (is_state m.objects m.variables next)
