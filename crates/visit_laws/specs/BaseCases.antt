-- What is found of the base cases of a state.
use Rattle.std.specs.Prelude.{◌≡◌, ◌↔◌, ℕ, Bool, Option, Some, None, Ok, Err, ℤ}
use Rattle.dp_model.specs.declared.answers.FaultKind.{FaultKind}
use Rattle.dp_model.specs.declared.answers.Spot.TheVariants as spots
use Rattle.dp_model.specs.declared.parts.PlainState.{PlainState}
use Rattle.dp_model.specs.declared.whole.Model.{Model}
use Rattle.dp_steps.specs.States.{Allowed, Base, Inner}
use Rattle.dp_steps.specs.Faults.{MeetsIn}
use Rattle.spot_eval.specs.declared.ends.SpotFault.{SpotFault}
use Rattle.spot_eval.specs.Looks.{base_at}

-- A base cost is found exactly where the state is base and has that cost.
abbrev pub BaseFound : Type 0
BaseFound = (m : Model) (s : PlainState) (base : ℤ) → (base_at m s ≡ Ok (Some base)) ↔ Base m s base

-- None is found in an allowed state exactly where the state is inner.
abbrev pub InnerFound : Type 0
InnerFound = (m : Model) (s : PlainState) → Allowed m s → (base_at m s ≡ Ok None) ↔ Inner m s

-- A fault that is found is met in the state, at the spot that is told, with pruning on or off and at any cost so far.
abbrev pub BaseFaults : Type 0
BaseFaults = (m : Model) (prune : Bool) (cost : Option ℤ) (s : PlainState) (met : SpotFault) → base_at m s ≡ Err met → MeetsIn m prune cost s met.spot met.kind

-- A fault of a base case's condition that is met in the state is the one that is found,
abbrev pub ConditionMet : Type 0
ConditionMet = (m : Model) (prune : Bool) (cost : Option ℤ) (s : PlainState) (i j : ℕ) (kind : FaultKind) → MeetsIn m prune cost s (spots.BaseCondition i j) kind → base_at m s ≡ Err (record { spot = spots.BaseCondition i j; kind = kind })

-- and so is one of a base case's cost.
abbrev pub BaseCostMet : Type 0
BaseCostMet = (m : Model) (prune : Bool) (cost : Option ℤ) (s : PlainState) (i : ℕ) (kind : FaultKind) → MeetsIn m prune cost s (spots.BaseCost i) kind → base_at m s ≡ Err (record { spot = spots.BaseCost i; kind = kind })
