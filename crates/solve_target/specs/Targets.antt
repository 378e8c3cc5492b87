-- What the target of a model is, and what follows for all lists.
use Rattle.std.specs.Prelude.{ℕ, Bool, List, [], ℤ, Result, Ok, Err}
use Rattle.dp_model.specs.Costs.{IsBetter}
use Rattle.dp_model.specs.declared.answers.Found.{Found}
use Rattle.dp_model.specs.declared.whole.Model.{Model}
use Rattle.dp_steps.specs.Faults.{Meets}
use Rattle.dp_steps.specs.Lists.{Solution}
use Rattle.dp_steps.specs.States.{Base, Forbidden, Inner}
use Rattle.solve_target.specs.declared.looks.AtTarget.{AtTarget}
use Rattle.solve_target.specs.declared.looks.AtTarget.TheVariants as targets
use Rattle.successors.specs.Answers.{Met}
use Rattle.successors.specs.declared.starts.Start.{Start}
use Rattle.successors.specs.declared.starts.Start.TheVariants as starts

-- the target is base, this list is legal, and no list is better
pub record IsBaseTarget (m : Model) (found : Found) : Type 0 where
  pub base : Base m m.target found.cost
  pub legal : Solution m found.steps found.cost
  pub none_better : (steps : List ℕ) (other : ℤ) → Solution m steps other → IsBetter m.minimize other found.cost → ⊥

-- the target is not allowed, and no list is legal
pub record IsForbiddenTarget (m : Model) : Type 0 where
  pub forbidden : Forbidden m m.target
  pub none_legal : (steps : List ℕ) (cost : ℤ) → Solution m steps cost → ⊥

-- what the target is found to be when a search begins; a base target has the list without steps
abbrev pub target_of : Start → AtTarget
target_of (starts.Open n) = targets.Inner
target_of (starts.Base cost) = targets.Base (record { cost = cost; steps = [] })
target_of starts.NotAllowed = targets.NotAllowed

-- the same, or the first fault that is met there, without steps
abbrev pub found_to_be : Result Start Met → AtTarget
found_to_be (Ok start) = target_of start
found_to_be (Err met) = targets.Fault (record { steps = []; spot = met.spot; kind = met.kind })

-- what is answered of the target is so
abbrev pub TargetIs : Model → (prune : Bool) → AtTarget → Type 0
TargetIs m prune targets.Inner = Inner m m.target
TargetIs m prune (targets.Base found) = IsBaseTarget m found
TargetIs m prune targets.NotAllowed = IsForbiddenTarget m
TargetIs m prune (targets.Fault fault) = Meets m prune fault.steps fault.spot fault.kind
