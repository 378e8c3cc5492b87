-- Which states are allowed and base, which transitions are enabled in a state, and where they lead.
use Rattle.std.specs.Prelude.{◌≡◌, ℕ, ◌<◌, ◌^◌, Bool, true, false, ◌&&◌, nat_lt, if◌then◌else◌, ◌⊎◌, List, [], ◌∷◌, ◌++◌, slice_set, fold, Option, Some, None, option_to_list, Result, Ok, Err, ℤ, pos, negsuc}
use Rattle.dp_model.specs.Costs.{better_of}
use Rattle.dp_base.specs.Results.{◌>>=◌, in_turn}
use Rattle.dp_model.specs.StepTexts.{ground_of}
use Rattle.dp_model.specs.Evaluation.{each_holds, has, kind_of, set_in, num_value, set_value, cond_value}
use Rattle.dp_model.specs.declared.answers.FaultKind.{FaultKind}
use Rattle.dp_model.specs.declared.answers.FaultKind.TheVariants.{Range, Negative}
use Rattle.dp_model.specs.declared.trees.Cond.{Cond}
use Rattle.dp_model.specs.declared.trees.Num.{Num}
use Rattle.dp_model.specs.declared.trees.Over.{Over}
use Rattle.dp_model.specs.declared.trees.Over.TheVariants.{Object, Members}
use Rattle.dp_model.specs.declared.parts.VarKind.{VarKind}
use Rattle.dp_model.specs.declared.parts.VarKind.TheVariants as kinds
use Rattle.dp_model.specs.declared.parts.Effect.{Effect}
use Rattle.dp_model.specs.declared.parts.Effect.TheVariants as effects
use Rattle.dp_model.specs.declared.parts.Transition.{Transition}
use Rattle.dp_model.specs.declared.parts.BaseCase.{BaseCase}
use Rattle.dp_model.specs.declared.parts.PlainValue.{PlainValue}
use Rattle.dp_model.specs.declared.parts.PlainValue.TheVariants as values
use Rattle.dp_model.specs.declared.parts.PlainState.{PlainState}
use Rattle.dp_model.specs.declared.whole.Model.{Model}

-- conditions with these values of the parameters, in order up to the first that is not true
abbrev pub all_true : Model → PlainState → List ℕ → List Cond → Result Bool FaultKind
all_true m s given conditions = each_holds (λ (c : Cond). cond_value m s c given) conditions

-- every constraint is true
abbrev pub Allowed : Model → PlainState → Type 0
Allowed m s = all_true m s [] m.constraints ≡ Ok true

-- some constraint is false, and those before it are true
abbrev pub Forbidden : Model → PlainState → Type 0
Forbidden m s = all_true m s [] m.constraints ≡ Ok false

-- the cost of a base case in a state, where all its conditions are true
abbrev pub case_cost : Model → PlainState → BaseCase → Result (Option ℤ) FaultKind
case_cost m s b = all_true m s [] b.conditions >>= λ held. if held then (num_value m s b.cost [] >>= λ c. Ok (Some c)) else Ok None

-- the costs of the satisfied base cases, in order, or the first fault of any of them
abbrev pub case_costs : Model → PlainState → List BaseCase → Result (List ℤ) FaultKind
case_costs m s cases = in_turn (case_cost m s) cases >>= λ costs. Ok (satisfied costs)
  where
    satisfied : List (Option ℤ) → List ℤ
    satisfied [] = []
    satisfied (c ∷ cs) = option_to_list c ++ satisfied cs

-- The state is base: allowed, no base case meets a fault, and some base case is satisfied. Its cost is the best of theirs.
pub record Base (m : Model) (s : PlainState) (cost : ℤ) : Type 0 where
  pub allowed : Allowed m s
  pub best : (first : ℤ) × (others : List ℤ) × (case_costs m s m.base_cases ≡ Ok (first ∷ others)) × (cost ≡ fold (better_of m.minimize) first others)

-- The state is inner: allowed, no base case meets a fault, and none is satisfied. A state with a fault is neither base nor inner.
pub record Inner (m : Model) (s : PlainState) : Type 0 where
  pub allowed : Allowed m s
  pub open_cases : case_costs m s m.base_cases ≡ Ok []

-- each parameter that ranges over the members of a set variable has a member of it
abbrev pub are_members : PlainState → List Over → List ℕ → Bool
are_members s [] given = true
are_members s (over ∷ overs) [] = true
are_members s (Object object ∷ overs) (k ∷ given) = are_members s overs given
are_members s (Members v ∷ overs) (k ∷ given) = has (set_in s v) k && are_members s overs given

-- whether the memberships hold and the preconditions are true, in order up to the first that is not
abbrev pub is_enabled : Model → PlainState → Transition × List ℕ → Result Bool FaultKind
is_enabled m s t = if are_members s t.0.params t.1 then all_true m s t.1 t.0.preconditions else Ok false

abbrev pub Enabled : Model → PlainState → ℕ → Type 0
Enabled m s g = (t : Transition × List ℕ) × (ground_of m g ≡ Some t) × (is_enabled m s t ≡ Ok true)

abbrev pub IsForced : Model → ℕ → Type 0
IsForced m g = (t : Transition × List ℕ) × (ground_of m g ≡ Some t) × (t.0.forced ≡ true)

-- A forced transition that is tested before another is neither enabled nor a fault. Forced transitions are tested
-- before all others, in order of definition.
abbrev pub Considered : Model → PlainState → ℕ → Type 0
Considered m s g = (f : ℕ) (t : Transition × List ℕ) → IsForced m f → ground_of m f ≡ Some t → (f < g) ⊎ (IsForced m g → ⊥) → is_enabled m s t ≡ Ok false

-- the weight of a transition, if it has one
abbrev pub weight_of : Model → PlainState → Transition × List ℕ → Result (Option ℤ) FaultKind
weight_of m s t = weigh t.0.weight
  where
    weigh : Option Num → Result (Option ℤ) FaultKind
    weigh None = Ok None
    weigh (Some e) = num_value m s e t.1 >>= λ w. Ok (Some w)

-- a number as the new value of a variable: an element variable holds 0 to 2^32 - 1
abbrev pub stored : VarKind → ℤ → Result ℤ FaultKind
stored kinds.Integer n = Ok n
stored (kinds.Set object) n = Ok n
stored (kinds.Element object) (pos n) = if nat_lt n (2 ^ 32) then Ok (pos n) else Err Range
stored (kinds.Element object) (negsuc n) = Err Negative

-- the variable that an effect sets, and its new value
abbrev pub effect_value : Model → PlainState → List ℕ → Effect → Result (ℕ × PlainValue) FaultKind
effect_value m s given (effects.Number v e) = num_value m s e given >>= λ n. stored (kind_of m v) n >>= λ held. Ok (v, values.Number held)
effect_value m s given (effects.Members v e) = (set_value m s e).1 given >>= λ members. Ok (v, values.Members members)

-- all variables that are set change together
abbrev pub with_changes : List PlainValue → List (ℕ × PlainValue) → List PlainValue
with_changes held [] = held
with_changes held (change ∷ changes) = with_changes (slice_set held change.0 change.1) changes

-- the state that a transition leads to: every effect is computed in the old state
abbrev pub next_state : Model → PlainState → Transition × List ℕ → Result PlainState FaultKind
next_state m s t = in_turn (effect_value m s t.1) t.0.effects >>= λ changes. Ok (record { values = with_changes s.values changes })

-- A step: from an inner state, by a considered and enabled transition whose weight has a value or is absent, to the next state.
pub record Step (m : Model) (s : PlainState) (g : ℕ) (weight : Option ℤ) (next : PlainState) : Type 0 where
  pub inner : Inner m s
  pub considered : Considered m s g
  pub move : (t : Transition × List ℕ) × (ground_of m g ≡ Some t) × (is_enabled m s t ≡ Ok true) × (weight_of m s t ≡ Ok weight) × (next_state m s t ≡ Ok next)
