-- What the replay of a list of steps tells, in the words of a model.
use Rattle.std.specs.Prelude.{◌≡◌, ◌↔◌, ◌≤◌, ℕ, false, List, slice_get, take, length, Option, Some, None, ℤ}
use Rattle.dp_model.specs.declared.answers.FaultKind.{FaultKind}
use Rattle.dp_model.specs.declared.answers.Reason.{Reason}
use Rattle.dp_model.specs.declared.answers.Reason.TheVariants as reasons
use Rattle.dp_model.specs.declared.answers.Spot.{Spot}
use Rattle.dp_model.specs.declared.parts.PlainState.{PlainState}
use Rattle.dp_model.specs.declared.whole.Model.{Model}
use Rattle.dp_steps.specs.Faults.{Meets}
use Rattle.dp_steps.specs.Lists.{Path, Solution}
use Rattle.dp_steps.specs.States.{Base, Considered, Enabled, Forbidden, Inner, IsForced}
use Rattle.replay_list.specs.Replays.{replayed}
use Rattle.replay_list.specs.declared.replayed.Replayed.TheVariants.{Legal, Illegal, Faulted}

-- A replay tells that a list is legal, at a cost, exactly where it is a legal list of this cost.
abbrev pub LegalFound : Type 0
LegalFound = (m : Model) (steps : List ℕ) (cost : ℤ) → (replayed m steps ≡ Legal cost) ↔ Solution m steps cost

-- Why a list goes no further in a state, where this is the next step, if there is one: the state is not allowed; it is base
-- and steps remain; no steps remain, and it is not base; another forced transition is the only one considered; or the step
-- is considered and not enabled.
abbrev pub Breaks : Model → PlainState → Option ℕ → Reason → Type 0
Breaks m s next reasons.NotAllowed = Forbidden m s
Breaks m s None reasons.AfterBase = ⊥
Breaks m s (Some g) reasons.AfterBase = (base : ℤ) × Base m s base
Breaks m s None reasons.NotBase = Inner m s
Breaks m s (Some g) reasons.NotBase = ⊥
Breaks m s None reasons.Forced = ⊥
Breaks m s (Some g) reasons.Forced = Inner m s × ((f : ℕ) × IsForced m f × Considered m s f × Enabled m s f × (f ≡ g → ⊥))
Breaks m s None reasons.NotEnabled = ⊥
Breaks m s (Some g) reasons.NotEnabled = Inner m s × Considered m s g × (Enabled m s g → ⊥)

-- So many steps of the list are a path to a state in which it goes no further, for this reason.
pub record IsIllegal (m : Model) (steps : List ℕ) (done : ℕ) (reason : Reason) : Type 0 where
  pub state : PlainState
  pub cost : Option ℤ
  pub within : done ≤ length steps
  pub path : Path m (take done steps) state cost
  pub breaks : Breaks m state (slice_get steps done) reason

abbrev pub IllegalFound : Type 0
IllegalFound = (m : Model) (steps : List ℕ) (done : ℕ) (reason : Reason) → replayed m steps ≡ Illegal done reason → IsIllegal m steps done reason

-- A fault that a replay tells is met by the steps that were done before.
abbrev pub FaultMet : Type 0
FaultMet =
    (m : Model) (steps : List ℕ) (done : ℕ) (spot : Spot) (kind : FaultKind) → replayed m steps ≡ Faulted done spot kind
    → (done ≤ length steps) × Meets m false (take done steps) spot kind
