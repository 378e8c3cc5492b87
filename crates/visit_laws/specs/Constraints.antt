-- What is found of the constraints of a state.
use Rattle.std.specs.Prelude.{◌≡◌, ◌↔◌, ℕ, Bool, true, false, Option, Ok, Err, ℤ}
use Rattle.dp_model.specs.declared.answers.FaultKind.{FaultKind}
use Rattle.dp_model.specs.declared.answers.Spot.TheVariants as spots
use Rattle.dp_model.specs.declared.parts.PlainState.{PlainState}
use Rattle.dp_model.specs.declared.whole.Model.{Model}
use Rattle.dp_steps.specs.States.{Allowed, Forbidden}
use Rattle.dp_steps.specs.Faults.{MeetsIn}
use Rattle.spot_eval.specs.declared.ends.SpotFault.{SpotFault}
use Rattle.spot_eval.specs.Looks.{allowed_at}

-- A state is found allowed exactly where all constraints are true in it.
abbrev pub AllowedFound : Type 0
AllowedFound = (m : Model) (s : PlainState) → (allowed_at m s ≡ Ok true) ↔ Allowed m s

-- It is found not to be allowed exactly where some constraint is false, and those before it are true.
abbrev pub ForbiddenFound : Type 0
ForbiddenFound = (m : Model) (s : PlainState) → (allowed_at m s ≡ Ok false) ↔ Forbidden m s

-- A fault that is found is met in the state, at the spot that is told, with pruning on or off and at any cost so far.
abbrev pub ConstraintFaults : Type 0
ConstraintFaults = (m : Model) (prune : Bool) (cost : Option ℤ) (s : PlainState) (met : SpotFault) → allowed_at m s ≡ Err met → MeetsIn m prune cost s met.spot met.kind

-- A fault of a constraint that is met in the state is the one that is found.
abbrev pub ConstraintMet : Type 0
ConstraintMet = (m : Model) (prune : Bool) (cost : Option ℤ) (s : PlainState) (i : ℕ) (kind : FaultKind) → MeetsIn m prune cost s (spots.Constraint i) kind → allowed_at m s ≡ Err (record { spot = spots.Constraint i; kind = kind })
