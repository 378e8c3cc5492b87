-- What is found of the target, with which a search begins.
use Rattle.std.specs.Prelude.{◌≡◌, ◌↔◌, Bool, true, None, Ok, Err, ℤ}
use Rattle.dp_model.specs.declared.whole.Model.{Model}
use Rattle.dp_steps.specs.Bounds.{IsFloor}
use Rattle.dp_steps.specs.Faults.{MeetsIn}
use Rattle.dp_steps.specs.States.{Base, Forbidden, Inner}
use Rattle.state_layout.specs.declared.node.Node.{Node}
use Rattle.successors.specs.Answers.{Met}
use Rattle.successors.specs.Starts.{start_at}
use Rattle.successors.specs.declared.starts.Start.TheVariants as starts
use Rattle.visit_laws.specs.Looks.{is_looked}

-- the target's node: it has no cost so far and no parent, and its transition says nothing
pub record IsStart (m : Model) (prune : Bool) (n : Node) : Type 0 where
  pub state : n.state ≡ m.target
  pub cost : n.cost ≡ None
  pub floor : IsFloor m prune m.target None n.floor
  pub parent : n.parent ≡ None
  pub transition : n.transition ≡ 0

-- The target is found not to be allowed exactly where it is forbidden,
abbrev pub StartForbidden : Type 0
StartForbidden = (m : Model) (prune : Bool) → (start_at m prune ≡ Ok starts.NotAllowed) ↔ Forbidden m m.target

-- base with this cost exactly where it is base with this cost,
abbrev pub StartBase : Type 0
StartBase = (m : Model) (prune : Bool) (base : ℤ) → (start_at m prune ≡ Ok (starts.Base base)) ↔ Base m m.target base

-- and open with this node exactly where it is inner and this is its node.
abbrev pub StartOpen : Type 0
StartOpen = (m : Model) (prune : Bool) (n : Node) → (start_at m prune ≡ Ok (starts.Open n)) ↔ (Inner m m.target × IsStart m prune n)

-- A fault is found exactly where it is met in the target, at a spot of a look.
abbrev pub StartFaults : Type 0
StartFaults = (m : Model) (prune : Bool) (met : Met) → (start_at m prune ≡ Err met) ↔ ((met.last ≡ None) × (is_looked met.spot ≡ true) × MeetsIn m prune None m.target met.spot met.kind)
