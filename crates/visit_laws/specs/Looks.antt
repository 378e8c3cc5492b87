-- What is found of the floor of a state, and what a state is found to be.
use Rattle.std.specs.Prelude.{◌≡◌, ◌↔◌, ℕ, Bool, true, false, Option, Ok, Err, ℤ}
use Rattle.dp_model.specs.declared.answers.FaultKind.{FaultKind}
use Rattle.dp_model.specs.declared.answers.Spot.{Spot}
use Rattle.dp_model.specs.declared.answers.Spot.TheVariants as spots
use Rattle.dp_model.specs.declared.parts.PlainState.{PlainState}
use Rattle.dp_model.specs.declared.whole.Model.{Model}
use Rattle.dp_steps.specs.States.{Base, Forbidden, Inner}
use Rattle.dp_steps.specs.Bounds.{IsFloor}
use Rattle.dp_steps.specs.Faults.{MeetsIn}
use Rattle.spot_eval.specs.declared.ends.SpotFault.{SpotFault}
use Rattle.spot_eval.specs.Looks.{floor_at, looked_at}
use Rattle.spot_eval.specs.declared.looks.Look.TheVariants as looks

-- The floor that is found is the floor of the state with this cost so far: the cost joined with the tightest dual bound
-- with pruning on in a model with dual bounds, and none otherwise.
abbrev pub FloorFound : Type 0
FloorFound = (m : Model) (prune : Bool) (s : PlainState) (cost floor : Option ℤ) → (floor_at m prune s cost ≡ Ok floor) ↔ IsFloor m prune s cost floor

-- A fault of a dual bound is met in an inner state, at the spot that is told.
abbrev pub FloorFaults : Type 0
FloorFaults = (m : Model) (prune : Bool) (cost : Option ℤ) (s : PlainState) (met : SpotFault) → Inner m s → floor_at m prune s cost ≡ Err met → MeetsIn m prune cost s met.spot met.kind

-- A fault of a dual bound that is met in the state is the one that is found.
abbrev pub BoundMet : Type 0
BoundMet = (m : Model) (prune : Bool) (cost : Option ℤ) (s : PlainState) (i : ℕ) (kind : FaultKind) → MeetsIn m prune cost s (spots.Bound i) kind → floor_at m prune s cost ≡ Err (record { spot = spots.Bound i; kind = kind })

-- A state is found not to be allowed exactly where it is forbidden,
abbrev pub LookedForbidden : Type 0
LookedForbidden = (m : Model) (prune : Bool) (s : PlainState) (cost : Option ℤ) → (looked_at m prune s cost ≡ Ok looks.NotAllowed) ↔ Forbidden m s

-- base with this cost exactly where it is base with this cost,
abbrev pub LookedBase : Type 0
LookedBase = (m : Model) (prune : Bool) (s : PlainState) (cost : Option ℤ) (base : ℤ) → (looked_at m prune s cost ≡ Ok (looks.Base base)) ↔ Base m s base

-- and open with this floor exactly where it is inner and has this floor.
abbrev pub LookedOpen : Type 0
LookedOpen = (m : Model) (prune : Bool) (s : PlainState) (cost floor : Option ℤ) → (looked_at m prune s cost ≡ Ok (looks.Open floor)) ↔ (Inner m s × IsFloor m prune s cost floor)

-- the spots that are evaluated when a state is looked at: of constraints, base cases and dual bounds
abbrev pub is_looked : Spot → Bool
is_looked (spots.Constraint i) = true
is_looked (spots.BaseCondition i j) = true
is_looked (spots.BaseCost i) = true
is_looked (spots.Bound i) = true
is_looked spot = false

-- A fault is found exactly where it is met in the state at one of these spots.
abbrev pub LookFaults : Type 0
LookFaults = (m : Model) (prune : Bool) (cost : Option ℤ) (s : PlainState) (met : SpotFault) → (looked_at m prune s cost ≡ Err met) ↔ ((is_looked met.spot ≡ true) × MeetsIn m prune cost s met.spot met.kind)
