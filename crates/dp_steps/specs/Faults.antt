-- Which expressions of a model are evaluated in a state, and which faults a list of transitions meets.
use Rattle.std.specs.Prelude.{◌≡◌, ℕ, Bool, true, List, [], slice_get, take, Option, Some, Result, Ok, Err, IfSome, ℤ}
use Rattle.dp_base.specs.Results.{in_turn}
use Rattle.dp_model.specs.Costs.{InRange, join, join_onto, ranged}
use Rattle.dp_model.specs.Evaluation.{num_value, cond_value}
use Rattle.dp_model.specs.StepTexts.{ground_of}
use Rattle.dp_steps.specs.States.{Allowed, Base, Considered, Enabled, Inner, all_true, are_members, case_costs, effect_value, weight_of}
use Rattle.dp_steps.specs.Bounds.{values_of}
use Rattle.dp_steps.specs.Lists.{Path}
use Rattle.dp_model.specs.declared.answers.FaultKind.{FaultKind}
use Rattle.dp_model.specs.declared.answers.Spot.{Spot}
use Rattle.dp_model.specs.declared.answers.Spot.TheVariants as spots
use Rattle.dp_model.specs.declared.trees.Cond.{Cond}
use Rattle.dp_model.specs.declared.trees.Num.{Num}
use Rattle.dp_model.specs.declared.parts.BaseCase.{BaseCase}
use Rattle.dp_model.specs.declared.parts.Effect.{Effect}
use Rattle.dp_model.specs.declared.parts.Transition.{Transition}
use Rattle.dp_model.specs.declared.parts.PlainState.{PlainState}
use Rattle.dp_model.specs.declared.whole.Model.{Model}

-- there is a value, and no fault
abbrev pub HasValue : {A : Type 0} → Result A FaultKind → Type 0
HasValue {A} r = (x : A) × (r ≡ Ok x)

-- the base case of this number is come to: all constraints are true, and no earlier base case meets a fault
abbrev pub ComesTo : Model → PlainState → ℕ → Type 0
ComesTo m s i = Allowed m s × HasValue (case_costs m s (take i m.base_cases))

-- its conditions before the one of this number are true
abbrev pub HoldsBefore : Model → PlainState → ℕ → ℕ → Type 0
HoldsBefore m s i j = (b : BaseCase) × (slice_get m.base_cases i ≡ Some b) × (all_true m s [] (take j b.conditions) ≡ Ok true)

abbrev pub HoldsWhole : Model → PlainState → ℕ → Type 0
HoldsWhole m s i = (b : BaseCase) × (slice_get m.base_cases i ≡ Some b) × (all_true m s [] b.conditions ≡ Ok true)

-- the memberships of a transition hold, and its preconditions before the one of this number are true
abbrev pub AdmitsBefore : Model → PlainState → ℕ → ℕ → Type 0
AdmitsBefore m s g j = (t : Transition × List ℕ) × (ground_of m g ≡ Some t) × (are_members s t.0.params t.1 ≡ true) × (all_true m s t.1 (take j t.0.preconditions) ≡ Ok true)

-- an inner state, and a transition that is considered and enabled there
abbrev pub MayStep : Model → PlainState → ℕ → Type 0
MayStep m s g = Inner m s × Considered m s g × Enabled m s g

-- its weight has a value
abbrev pub Weighs : Model → PlainState → ℕ → Type 0
Weighs m s g = (t : Transition × List ℕ) × (w : ℤ) × (ground_of m g ≡ Some t) × (weight_of m s t ≡ Ok (Some w))

-- Its weight has a value or is absent, the cost so far joined with it is in range, and its effects before the one of
-- this number have values.
abbrev pub ChangesBefore : Model → Option ℤ → PlainState → ℕ → ℕ → Type 0
ChangesBefore m cost s g i =
    (t : Transition × List ℕ) × (w : Option ℤ) × (ground_of m g ≡ Some t) × (weight_of m s t ≡ Ok w) × IfSome (join m.join cost w) InRange × HasValue (in_turn (effect_value m s t.1) (take i t.0.effects))

-- The spot is reached in the state: this is where the model is evaluated there, in which order. `cost` is the cost so
-- far, and `prune` says whether dual bounds are used.
abbrev pub Reached : Model → (prune : Bool) → (cost : Option ℤ) → PlainState → Spot → Type 0
Reached m prune cost s (spots.Constraint i) = all_true m s [] (take i m.constraints) ≡ Ok true
Reached m prune cost s (spots.BaseCondition i j) = ComesTo m s i × HoldsBefore m s i j
Reached m prune cost s (spots.BaseCost i) = ComesTo m s i × HoldsWhole m s i
Reached m prune cost s spots.Total = (base : ℤ) × Base m s base
Reached m prune cost s (spots.Bound i) = Inner m s × (prune ≡ true) × HasValue (values_of m s (take i m.bounds))
Reached m prune cost s (spots.Precondition g j) = Inner m s × Considered m s g × AdmitsBefore m s g j
Reached m prune cost s (spots.Weight g) = MayStep m s g
Reached m prune cost s (spots.Cost g) = MayStep m s g × Weighs m s g
Reached m prune cost s (spots.Effect g i) = MayStep m s g × ChangesBefore m cost s g i

-- The value at the spot is this fault. At `Cost` and `Total` it is the join of the cost so far with the weight or the
-- base cost, tested for its range.
abbrev pub Faults : Model → (cost : Option ℤ) → PlainState → Spot → FaultKind → Type 0
Faults m cost s (spots.Constraint i) kind = (e : Cond) × (slice_get m.constraints i ≡ Some e) × (cond_value m s e [] ≡ Err kind)
Faults m cost s (spots.BaseCondition i j) kind = (b : BaseCase) × (e : Cond) × (slice_get m.base_cases i ≡ Some b) × (slice_get b.conditions j ≡ Some e) × (cond_value m s e [] ≡ Err kind)
Faults m cost s (spots.BaseCost i) kind = (b : BaseCase) × (slice_get m.base_cases i ≡ Some b) × (num_value m s b.cost [] ≡ Err kind)
Faults m cost s spots.Total kind = (base : ℤ) × Base m s base × (ranged (join_onto m.join cost base) ≡ Err kind)
Faults m cost s (spots.Bound i) kind = (e : Num) × (slice_get m.bounds i ≡ Some e) × (num_value m s e [] ≡ Err kind)
Faults m cost s (spots.Precondition g j) kind = (t : Transition × List ℕ) × (e : Cond) × (ground_of m g ≡ Some t) × (slice_get t.0.preconditions j ≡ Some e) × (cond_value m s e t.1 ≡ Err kind)
Faults m cost s (spots.Weight g) kind = (t : Transition × List ℕ) × (ground_of m g ≡ Some t) × (weight_of m s t ≡ Err kind)
Faults m cost s (spots.Cost g) kind = (t : Transition × List ℕ) × (w : ℤ) × (ground_of m g ≡ Some t) × (weight_of m s t ≡ Ok (Some w)) × (ranged (join_onto m.join cost w) ≡ Err kind)
Faults m cost s (spots.Effect g i) kind = (t : Transition × List ℕ) × (e : Effect) × (ground_of m g ≡ Some t) × (slice_get t.0.effects i ≡ Some e) × (effect_value m s t.1 e ≡ Err kind)

-- the spot is reached in the state, and its value is this fault
abbrev pub MeetsIn : Model → (prune : Bool) → (cost : Option ℤ) → PlainState → Spot → FaultKind → Type 0
MeetsIn m prune cost s spot kind = Reached m prune cost s spot × Faults m cost s spot kind

-- The list meets the fault: it is a path to a state in which the spot is reached with the list's cost so far, and the
-- value there is this fault.
abbrev pub Meets : Model → (prune : Bool) → List ℕ → Spot → FaultKind → Type 0
Meets m prune steps spot kind = (s : PlainState) × (cost : Option ℤ) × Path m steps s cost × MeetsIn m prune cost s spot kind
