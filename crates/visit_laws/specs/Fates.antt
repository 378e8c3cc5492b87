-- What may become of a transition of a visited node: the state that it leads to, its cost so far, and what a visit makes
-- of both.
use Rattle.std.specs.Prelude.{◌≡◌, ℕ, ◌+◌, Bool, true, List, [], ◌∷◌, map, Option, Some, None, IfSome, ℤ, pos, ◌≤ℤ◌}
use Rattle.std.specs.List.Sorted.{IsStrictlyIncreasing}
use Rattle.dp_model.specs.Costs.{InRange, join, join_onto, order_word}
use Rattle.dp_model.specs.declared.answers.Spot.{Spot}
use Rattle.dp_model.specs.declared.answers.Spot.TheVariants as spots
use Rattle.dp_model.specs.declared.parts.PlainState.{PlainState}
use Rattle.dp_model.specs.declared.whole.Model.{Model}
use Rattle.dp_steps.specs.Bounds.{IsFloor}
use Rattle.dp_steps.specs.Faults.{MeetsIn}
use Rattle.dp_steps.specs.States.{Base, Considered, Enabled, Forbidden, Inner, Step}
use Rattle.dp_claims.specs.Enough.{Has}
use Rattle.state_layout.specs.declared.node.Node.{Node}
use Rattle.successors.specs.Answers.{Met}
use Rattle.successors.specs.Searches.{Visit}
use Rattle.successors.specs.declared.batch.Batch.{Batch}
use Rattle.successors.specs.declared.batch.Offer.{Offer}
use Rattle.visit_laws.specs.Looks.{is_looked}

-- The node of a step from the visited state to an inner state: it has the joined cost, its floor, the visited node as its
-- parent, and the step's transition.
pub record IsSuccessor (m : Model) (v : Visit) (g : ℕ) (n : Node) : Type 0 where
  pub weight : Option ℤ
  pub step : Step m v.state g weight n.state
  pub inner : Inner m n.state
  pub cost : n.cost ≡ join m.join v.cost weight
  pub in_range : IfSome n.cost InRange
  pub floor : IsFloor m v.prune n.state n.cost n.floor
  pub parent : n.parent ≡ Some v.id
  pub transition : n.transition ≡ g

-- the total of a step to a base state, which is in range, as the joined cost is
pub record IsTotal (m : Model) (v : Visit) (g : ℕ) (total : ℤ) : Type 0 where
  pub weight : Option ℤ
  pub next : PlainState
  pub base : ℤ
  pub step : Step m v.state g weight next
  pub is_base : Base m next base
  pub cost_in_range : IfSome (join m.join v.cost weight) InRange
  pub in_range : InRange total
  pub is : total ≡ join_onto m.join (join m.join v.cost weight) base

-- the step leads to a state that is not allowed, at a joined cost in range
abbrev pub LeadsOut : Model → Visit → ℕ → Type 0
LeadsOut m v g = (weight : Option ℤ) × (next : PlainState) × Step m v.state g weight next × IfSome (join m.join v.cost weight) InRange × Forbidden m next

-- the best word prunes a node: the node has a floor, whose word is not less
abbrev pub Prunes : Model → (best : ℕ) → Node → Type 0
Prunes m best n = (floor : ℤ) × (n.floor ≡ Some floor) × (pos best ≤ℤ order_word m.minimize m.join (Some floor))

-- what a visit makes of a transition: nothing, a total, a node that is to be visited, or a pruned node
pub data Fate : Type 0 where
  Out : Fate
  Total : ℤ → Fate
  Letter : Node → Fate
  Pruned : Node → Fate

abbrev pub IsFate : Model → Visit → ℕ → Fate → Type 0
IsFate m v g Out = LeadsOut m v g
IsFate m v g (Total total) = IsTotal m v g total
IsFate m v g (Letter n) = IsSuccessor m v g n × (Prunes m v.best n → ⊥)
IsFate m v g (Pruned n) = IsSuccessor m v g n × Prunes m v.best n

-- ---- transitions with their fates

abbrev pub numbers_of : List (ℕ × Fate) → List ℕ
numbers_of fates = map (λ (x : ℕ × Fate). x.0) fates

abbrev pub with_letter : Fate → List Node → List Node
with_letter Out ns = ns
with_letter (Total total) ns = ns
with_letter (Letter n) ns = n ∷ ns
with_letter (Pruned n) ns = ns

abbrev pub letters_of : List (ℕ × Fate) → List Node
letters_of [] = []
letters_of (x ∷ xs) = with_letter x.1 (letters_of xs)

abbrev pub with_offer : ℕ → Fate → List Offer → List Offer
with_offer g Out os = os
with_offer g (Total total) os = record { cost = total; transition = g } ∷ os
with_offer g (Letter n) os = os
with_offer g (Pruned n) os = os

abbrev pub offers_of : List (ℕ × Fate) → List Offer
offers_of [] = []
offers_of (x ∷ xs) = with_offer x.0 x.1 (offers_of xs)

abbrev pub with_pruned : Fate → List Node → List Node
with_pruned Out ns = ns
with_pruned (Total total) ns = ns
with_pruned (Letter n) ns = ns
with_pruned (Pruned n) ns = n ∷ ns

abbrev pub pruned_of : List (ℕ × Fate) → List Node
pruned_of [] = []
pruned_of (x ∷ xs) = with_pruned x.1 (pruned_of xs)

abbrev pub with_out : Fate → ℕ → ℕ
with_out Out count = count + 1
with_out (Total total) count = count
with_out (Letter n) count = count
with_out (Pruned n) count = count

-- how many lead out
abbrev pub out_of : List (ℕ × Fate) → ℕ
out_of [] = 0
out_of (x ∷ xs) = with_out x.1 (out_of xs)

-- a batch of these, each kind in this order
abbrev pub batch_of : List (ℕ × Fate) → Batch
batch_of fates = record { letters = letters_of fates; offers = offers_of fates; pruned = pruned_of fates; not_allowed = out_of fates }

-- the transitions that are considered and enabled in the visited state, in ascending order, each with its fate
pub record AreFates (m : Model) (v : Visit) (fates : List (ℕ × Fate)) : Type 0 where
  pub ascending : IsStrictlyIncreasing (numbers_of fates)
  pub stepping : (g : ℕ) (fate : Fate) → Has fates (g, fate) → Considered m v.state g × Enabled m v.state g
  pub fated : (g : ℕ) (fate : Fate) → Has fates (g, fate) → IsFate m v g fate
  pub every : (g : ℕ) → Considered m v.state g → Enabled m v.state g → (fate : Fate) × Has fates (g, fate)

-- ---- faults

-- A fault is met in the visited state at its cost so far, or in the state that the transition `last` leads to from there,
-- at the joined cost.
abbrev pub MeetsAfter : Model → Visit → (last : Option ℕ) → Met → Type 0
MeetsAfter m v None met = MeetsIn m v.prune v.cost v.state met.spot met.kind
MeetsAfter m v (Some g) met =
    (weight : Option ℤ) × (next : PlainState) × Step m v.state g weight next × IfSome (join m.join v.cost weight) InRange
    × MeetsIn m v.prune (join m.join v.cost weight) next met.spot met.kind

-- the fault is of this transition: it is met in the state that the transition leads to, or at one of its own spots
abbrev pub IsOf : ℕ → (last : Option ℕ) → Spot → Type 0
IsOf g (Some h) spot = h ≡ g
IsOf g None (spots.Precondition h j) = h ≡ g
IsOf g None (spots.Weight h) = h ≡ g
IsOf g None (spots.Cost h) = h ≡ g
IsOf g None (spots.Effect h i) = h ≡ g
IsOf g None spot = ⊥

-- the spots that a visit evaluates in a successor: those of a look, and that of the total
abbrev pub is_on_arrival : Spot → Bool
is_on_arrival spots.Total = true
is_on_arrival spot = is_looked spot

-- the fault is not met in a successor, or at one of these spots
abbrev pub Arrives : (last : Option ℕ) → Spot → Type 0
Arrives None spot = Unit {0}
Arrives (Some g) spot = is_on_arrival spot ≡ true

-- a fault that is met on the way from the first precondition of a transition to the look at the state that it leads to
pub record IsFaultOf (m : Model) (v : Visit) (g : ℕ) (met : Met) : Type 0 where
  pub is_of : IsOf g met.last met.spot
  pub meets : MeetsAfter m v met.last met
  pub arrives : Arrives met.last met.spot
