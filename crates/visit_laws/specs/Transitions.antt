-- Which transitions are found to be enabled and considered in a state.
use Rattle.std.specs.Prelude.{◌≡◌, ◌↔◌, ℕ, Bool, true, false, List, filter, Option, Some, None, Result, Ok, Err, ℤ}
use Rattle.std.specs.List.Sorted.{IsStrictlyIncreasing}
use Rattle.dp_claims.specs.Enough.{Has}
use Rattle.dp_model.specs.declared.answers.FaultKind.{FaultKind}
use Rattle.dp_model.specs.declared.answers.Spot.TheVariants as spots
use Rattle.dp_model.specs.StepTexts.{ground_of}
use Rattle.dp_model.specs.declared.parts.Transition.{Transition}
use Rattle.dp_model.specs.declared.parts.PlainState.{PlainState}
use Rattle.dp_model.specs.declared.whole.Model.{Model}
use Rattle.dp_steps.specs.States.{Considered, Enabled, Inner, IsForced, is_enabled}
use Rattle.dp_steps.specs.Faults.{MeetsIn}
use Rattle.spot_eval.specs.declared.ends.SpotFault.{SpotFault}
use Rattle.spot_eval.specs.Moves.{first_enabled, forced_of, goes_before, may_step_at, number_enabled, others_of}

-- A transition may step, as is found, exactly where it is considered and enabled.
abbrev pub MayStepFound : Type 0
MayStepFound = (m : Model) (s : PlainState) (g : ℕ) → (may_step_at m s g ≡ Ok true) ↔ (Considered m s g × Enabled m s g)

-- One that is found not to step is not considered, or not enabled.
abbrev pub MayNotStep : Type 0
MayNotStep = (m : Model) (s : PlainState) (g : ℕ) → may_step_at m s g ≡ Ok false → Considered m s g → Enabled m s g → ⊥

-- A fault that is found on the way is met in an inner state, at the spot that is told: it is a precondition of the
-- transition, or of a forced one that is tested before it.
abbrev pub MayStepFaults : Type 0
MayStepFaults = (m : Model) (prune : Bool) (cost : Option ℤ) (s : PlainState) (g : ℕ) (met : SpotFault) → Inner m s → may_step_at m s g ≡ Err met → MeetsIn m prune cost s met.spot met.kind

-- A transition is found enabled exactly where it is enabled.
abbrev pub EnabledFound : Type 0
EnabledFound = (m : Model) (s : PlainState) (g : ℕ) → (number_enabled m s g ≡ Ok true) ↔ Enabled m s g

-- A fault of a considered transition's preconditions is met in an inner state, at the spot that is told.
abbrev pub EnabledFaults : Type 0
EnabledFaults = (m : Model) (prune : Bool) (cost : Option ℤ) (s : PlainState) (g : ℕ) (met : SpotFault) → Inner m s → Considered m s g → number_enabled m s g ≡ Err met → MeetsIn m prune cost s met.spot met.kind

-- A fault of a transition's precondition that is met in the state is the one that is found of the transition.
abbrev pub PreconditionMet : Type 0
PreconditionMet =
    (m : Model) (prune : Bool) (cost : Option ℤ) (s : PlainState) (g j : ℕ) (kind : FaultKind) → MeetsIn m prune cost s (spots.Precondition g j) kind
    → (number_enabled m s g ≡ Err (record { spot = spots.Precondition g j; kind = kind })) × (may_step_at m s g ≡ Err (record { spot = spots.Precondition g j; kind = kind }))

-- a ground transition that is not forced
abbrev pub IsOther : Model → ℕ → Type 0
IsOther m g = (t : Transition × List ℕ) × (ground_of m g ≡ Some t) × (t.0.forced ≡ false)

-- The list of the forced transitions has exactly these, in ascending order,
abbrev pub ForcedListed : Type 0
ForcedListed = (m : Model) → IsStrictlyIncreasing (forced_of m) × ((f : ℕ) → Has (forced_of m) f ↔ IsForced m f)

-- and the list of the others has exactly those.
abbrev pub OthersListed : Type 0
OthersListed = (m : Model) → IsStrictlyIncreasing (others_of m) × ((g : ℕ) → Has (others_of m) g ↔ IsOther m g)

-- The first enabled one of the forced transitions is considered and enabled.
abbrev pub ForcedFound : Type 0
ForcedFound = (m : Model) (s : PlainState) (f : ℕ) → first_enabled m s (forced_of m) ≡ Ok (Some f) → IsForced m f × Considered m s f × Enabled m s f

-- No other transition is: where one is forced and enabled, no other one is considered and enabled.
abbrev pub ForcedAlone : Type 0
ForcedAlone = (m : Model) (s : PlainState) (f g : ℕ) → first_enabled m s (forced_of m) ≡ Ok (Some f) → Considered m s g → Enabled m s g → g ≡ f

-- Where none of the forced transitions is found enabled, none of them is enabled or a fault,
abbrev pub NoneForced : Type 0
NoneForced = (m : Model) (s : PlainState) (f : ℕ) (t : Transition × List ℕ) → first_enabled m s (forced_of m) ≡ Ok None → IsForced m f → ground_of m f ≡ Some t → is_enabled m s t ≡ Ok false

-- and each transition is considered.
abbrev pub AllConsidered : Type 0
AllConsidered = (m : Model) (s : PlainState) (g : ℕ) → first_enabled m s (forced_of m) ≡ Ok None → Considered m s g

-- A fault of the forced transitions is met in an inner state, at the spot that is told.
abbrev pub ForcedFaults : Type 0
ForcedFaults = (m : Model) (prune : Bool) (cost : Option ℤ) (s : PlainState) (met : SpotFault) → Inner m s → first_enabled m s (forced_of m) ≡ Err met → MeetsIn m prune cost s met.spot met.kind

-- the first enabled one of the forced transitions that are tested before a transition
abbrev pub first_before : Model → PlainState → ℕ → Result (Option ℕ) SpotFault
first_before m s g = first_enabled m s (filter (goes_before m g) (forced_of m))

-- It is forced, considered and enabled, and another than the transition.
abbrev pub BeforeFound : Type 0
BeforeFound = (m : Model) (s : PlainState) (g f : ℕ) → first_before m s g ≡ Ok (Some f) → IsForced m f × Considered m s f × Enabled m s f × (f ≡ g → ⊥)

-- There is none exactly where the transition is considered.
abbrev pub BeforeNone : Type 0
BeforeNone = (m : Model) (s : PlainState) (g : ℕ) → (first_before m s g ≡ Ok None) ↔ Considered m s g

-- A fault of those before a transition is met in an inner state, at the spot that is told.
abbrev pub BeforeFaults : Type 0
BeforeFaults = (m : Model) (prune : Bool) (cost : Option ℤ) (s : PlainState) (g : ℕ) (met : SpotFault) → Inner m s → first_before m s g ≡ Err met → MeetsIn m prune cost s met.spot met.kind
