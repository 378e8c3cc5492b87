-- What is found of the cost so far and of the state that a transition leads to.
use Rattle.std.specs.Prelude.{◌≡◌, ◌↔◌, ℕ, Bool, List, Option, Some, Ok, Err, IfSome, ℤ}
use Rattle.dp_model.specs.Costs.{InRange, join}
use Rattle.dp_model.specs.StepTexts.{ground_of}
use Rattle.dp_model.specs.declared.answers.FaultKind.{FaultKind}
use Rattle.dp_model.specs.declared.answers.Spot.TheVariants as spots
use Rattle.dp_model.specs.declared.parts.Transition.{Transition}
use Rattle.dp_model.specs.declared.parts.PlainState.{PlainState}
use Rattle.dp_model.specs.declared.whole.Model.{Model}
use Rattle.dp_steps.specs.States.{Step, next_state, weight_of}
use Rattle.dp_steps.specs.Faults.{MayStep, MeetsIn}
use Rattle.spot_eval.specs.declared.ends.SpotFault.{SpotFault}
use Rattle.spot_eval.specs.Moves.{cost_at, next_at}

-- From a cost so far in range, the cost so far of a successor is found exactly where the weight has a value or is
-- absent, and the joined cost is in range.
abbrev pub CostFound : Type 0
CostFound =
    (m : Model) (s : PlainState) (cost : Option ℤ) (g : ℕ) (t : Transition × List ℕ) (joined : Option ℤ) → IfSome cost InRange
    → (cost_at m s cost g t ≡ Ok joined) ↔ ((weight : Option ℤ) × (weight_of m s t ≡ Ok weight) × (joined ≡ join m.join cost weight) × IfSome joined InRange)

-- The state that is found is the next state.
abbrev pub NextFound : Type 0
NextFound = (m : Model) (s : PlainState) (g : ℕ) (t : Transition × List ℕ) (next : PlainState) → (next_at m s g t ≡ Ok next) ↔ (next_state m s t ≡ Ok next)

-- In an inner state, a considered and enabled transition whose cost so far and next state are found makes a step to that
-- state, whose weight joined onto the cost so far is the cost that is found, in range.
abbrev pub StepFound : Type 0
StepFound =
    (m : Model) (s : PlainState) (cost : Option ℤ) (g : ℕ) (t : Transition × List ℕ) (joined : Option ℤ) (next : PlainState) → IfSome cost InRange
    → MayStep m s g → ground_of m g ≡ Some t → cost_at m s cost g t ≡ Ok joined → next_at m s g t ≡ Ok next
    → (weight : Option ℤ) × Step m s g weight next × (joined ≡ join m.join cost weight) × IfSome joined InRange

-- Of each step with a joined cost in range both are found.
abbrev pub StepMade : Type 0
StepMade =
    (m : Model) (s : PlainState) (cost : Option ℤ) (g : ℕ) (t : Transition × List ℕ) (weight : Option ℤ) (next : PlainState) → IfSome cost InRange
    → Step m s g weight next → ground_of m g ≡ Some t → IfSome (join m.join cost weight) InRange
    → (cost_at m s cost g t ≡ Ok (join m.join cost weight)) × (next_at m s g t ≡ Ok next)

-- A fault of the weight, or of the joined cost's range, is met in the state where the transition is considered and
-- enabled, at the spot that is told.
abbrev pub CostFaults : Type 0
CostFaults =
    (m : Model) (prune : Bool) (cost : Option ℤ) (s : PlainState) (g : ℕ) (t : Transition × List ℕ) (met : SpotFault)
    → MayStep m s g → ground_of m g ≡ Some t → cost_at m s cost g t ≡ Err met → MeetsIn m prune cost s met.spot met.kind

-- So is a fault of the effects, where the joined cost is found.
abbrev pub EffectFaults : Type 0
EffectFaults =
    (m : Model) (prune : Bool) (cost : Option ℤ) (s : PlainState) (g : ℕ) (t : Transition × List ℕ) (joined : Option ℤ) (met : SpotFault) → IfSome cost InRange
    → MayStep m s g → ground_of m g ≡ Some t → cost_at m s cost g t ≡ Ok joined → next_at m s g t ≡ Err met → MeetsIn m prune cost s met.spot met.kind

-- A fault of a transition's weight that is met in the state is the one that is found,
abbrev pub WeightMet : Type 0
WeightMet =
    (m : Model) (prune : Bool) (cost : Option ℤ) (s : PlainState) (g : ℕ) (t : Transition × List ℕ) (kind : FaultKind) → ground_of m g ≡ Some t
    → MeetsIn m prune cost s (spots.Weight g) kind → cost_at m s cost g t ≡ Err (record { spot = spots.Weight g; kind = kind })

-- so is one of the joined cost,
abbrev pub CostMet : Type 0
CostMet =
    (m : Model) (prune : Bool) (cost : Option ℤ) (s : PlainState) (g : ℕ) (t : Transition × List ℕ) (kind : FaultKind) → ground_of m g ≡ Some t
    → MeetsIn m prune cost s (spots.Cost g) kind → cost_at m s cost g t ≡ Err (record { spot = spots.Cost g; kind = kind })

-- and so is one of an effect.
abbrev pub EffectMet : Type 0
EffectMet =
    (m : Model) (prune : Bool) (cost : Option ℤ) (s : PlainState) (g i : ℕ) (t : Transition × List ℕ) (kind : FaultKind) → ground_of m g ≡ Some t
    → MeetsIn m prune cost s (spots.Effect g i) kind → next_at m s g t ≡ Err (record { spot = spots.Effect g i; kind = kind })
