-- Lists of ground transitions: where they lead, and which of them are legal, at which cost.
use Rattle.std.specs.Prelude.{◌≡◌, ℕ, List, [], ◌∷◌, Option, None, IfSome, ℤ}
use Rattle.dp_model.specs.Costs.{InRange, join, join_onto}
use Rattle.dp_steps.specs.States.{Base, Inner, Step}
use Rattle.dp_model.specs.declared.parts.PlainState.{PlainState}
use Rattle.dp_model.specs.declared.whole.Model.{Model}

-- The list leads by steps from a state with a cost so far to another, and every cost so far is in range.
abbrev pub Leads : Model → PlainState → Option ℤ → List ℕ → PlainState → Option ℤ → Type 0
Leads m from cost [] to total = (from ≡ to) × (cost ≡ total)
Leads m from cost (g ∷ steps) to total =
    (mid : PlainState) × (weight : Option ℤ) × Step m from g weight mid × IfSome (join m.join cost weight) InRange × Leads m mid (join m.join cost weight) steps to total

-- a path: a list that leads from the target, where the cost so far is `None`
abbrev pub Path : Model → List ℕ → PlainState → Option ℤ → Type 0
Path m steps s cost = Leads m m.target None steps s cost

-- a path to an inner state
abbrev pub Prefix : Model → List ℕ → PlainState → Type 0
Prefix m steps s = ((cost : Option ℤ) × Path m steps s cost) × Inner m s

-- The list leads from the state to a base state, and the value is its weights joined from the right onto the cost
-- of that base state, over whole numbers without limit.
abbrev pub Completion : Model → PlainState → List ℕ → ℤ → Type 0
Completion m s [] value = Base m s value
Completion m s (g ∷ steps) value =
    (mid : PlainState) × (weight : Option ℤ) × (rest : ℤ) × Step m s g weight mid × Completion m mid steps rest × (value ≡ join_onto m.join weight rest)

-- a path to a base state, whatever its cost
abbrev pub ReachesBase : Model → List ℕ → Type 0
ReachesBase m steps = (s : PlainState) × (cost : Option ℤ) × (base_cost : ℤ) × Path m steps s cost × Base m s base_cost

-- a legal list of this cost
pub record Solution (m : Model) (steps : List ℕ) (cost : ℤ) : Type 0 where
  pub reaches : ReachesBase m steps
  pub completes : Completion m m.target steps cost
  pub in_range : InRange cost
