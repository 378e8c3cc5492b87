-- What ranges over members: conditions for all choices of a variable, and parameters of transitions.
use Rattle.std.specs.Prelude.{◌≡◌, ◌↔◌, ℕ, ◌<◌, true, false, List, [], ◌∷◌, ◌++◌, slice_get, Some, Ok}
use Rattle.std.specs.List.{Contains}
use Rattle.dp_model.specs.Evaluation.{count_of, set_in, cond_value}
use Rattle.dp_model.specs.StepTexts.{ground_of}
use Rattle.dp_model.specs.declared.trees.Over.{Over}
use Rattle.dp_model.specs.declared.trees.Over.TheVariants.{Object, Members}
use Rattle.dp_model.specs.declared.trees.Cond.{Cond}
use Rattle.dp_model.specs.declared.trees.Cond.TheVariants as conds
use Rattle.dp_model.specs.declared.parts.Transition.{Transition}
use Rattle.dp_model.specs.declared.parts.PlainState.{PlainState}
use Rattle.dp_model.specs.declared.whole.Model.{Model}
use Rattle.dp_steps.specs.States.{Enabled, is_enabled}

-- a number that a variable may stand for: a member of the object type, or of the value that the set variable has in the state
abbrev pub IsChoice : Model → PlainState → Over → ℕ → Type 0
IsChoice m s (Object object) k = k < count_of m object
IsChoice m s (Members v) k = Contains (set_in s v) k

-- A condition for all choices is true exactly where it is true for each choice, which stands behind the values of the
-- parameters outside. There is no premise.
abbrev pub LawForall : Type 0
LawForall =
    (m : Model) (s : PlainState) (over : Over) (c : Cond) (args : List ℕ)
    → (cond_value m s (conds.All over c) args ≡ Ok true) ↔ ((k : ℕ) → IsChoice m s over k → cond_value m s c (args ++ k ∷ []) ≡ Ok true)

-- a parameter of the transition ranges over the set variable v, and its value is k
abbrev pub IsGiven : Transition × List ℕ → (v k : ℕ) → Type 0
IsGiven t v k = (i : ℕ) × (slice_get t.0.params i ≡ Some (Members v)) × (slice_get t.1 i ≡ Some k)

-- Where a ground transition is enabled, the value of each such parameter is a member. A transition without preconditions is
-- enabled where all of them are, so there are such.
abbrev pub LawMember : Type 0
LawMember =
    (m : Model) (s : PlainState) (g : ℕ) (t : Transition × List ℕ) (v k : ℕ)
    → ground_of m g ≡ Some t → Enabled m s g → IsGiven t v k → Contains (set_in s v) k

-- where the value of one of them is no member, the transition is not enabled, which is no fault
abbrev pub LawNoMember : Type 0
LawNoMember =
    (m : Model) (s : PlainState) (t : Transition × List ℕ) (v k : ℕ)
    → IsGiven t v k → (Contains (set_in s v) k → ⊥) → is_enabled m s t ≡ Ok false
