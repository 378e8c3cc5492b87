-- What is found of a visit of an inner state, at a cost so far in range.
use Rattle.std.specs.Prelude.{◌≡◌, ℕ, ◌<◌, true, ◌⊎◌, List, map, Option, Ok, Err, IfSome, ℤ}
use Rattle.std.specs.List.Sorted.{IsStrictlyIncreasing}
use Rattle.dp_model.specs.Costs.{InRange, join}
use Rattle.dp_model.specs.declared.answers.FaultKind.{FaultKind}
use Rattle.dp_model.specs.declared.answers.Spot.{Spot}
use Rattle.dp_model.specs.declared.parts.PlainState.{PlainState}
use Rattle.dp_model.specs.declared.whole.Model.{Model}
use Rattle.dp_steps.specs.States.{Considered, Enabled, Inner, Step}
use Rattle.dp_steps.specs.Bounds.{IsFloor}
use Rattle.dp_steps.specs.Faults.{MeetsIn}
use Rattle.dp_claims.specs.Enough.{Has}
use Rattle.state_layout.specs.declared.node.Node.{Node}
use Rattle.successors.specs.Answers.{Met}
use Rattle.successors.specs.Searches.{Visit}
use Rattle.successors.specs.Visits.{expansion}
use Rattle.successors.specs.declared.batch.Batch.{Batch}
use Rattle.successors.specs.declared.batch.Offer.{Offer}
use Rattle.visit_laws.specs.Fates.{AreFates, Fate, IsFaultOf, IsSuccessor, IsTotal, LeadsOut, MeetsAfter, Prunes, batch_of, is_on_arrival}

-- The batch is that of the fates of exactly the considered and enabled transitions, in ascending order.
abbrev pub FatesFound : Type 0
FatesFound = (m : Model) (v : Visit) (batch : Batch) → Inner m v.state → IfSome v.cost InRange → expansion m v ≡ Ok batch → (fates : List (ℕ × Fate)) × AreFates m v fates × (batch ≡ batch_of fates)

-- A fault is met in the visited state, or in the state that the transition leads to which is told with it.
abbrev pub VisitFaults : Type 0
VisitFaults = (m : Model) (v : Visit) (met : Met) → Inner m v.state → IfSome v.cost InRange → expansion m v ≡ Err met → MeetsAfter m v met.last met

-- It is the first one: no fault of a transition with a lesser number is met.
abbrev pub FirstFound : Type 0
FirstFound =
    (m : Model) (v : Visit) (met : Met) → Inner m v.state → IfSome v.cost InRange → expansion m v ≡ Err met
    → (g : ℕ) × IsFaultOf m v g met × ((h : ℕ) (other : Met) → h < g → IsFaultOf m v h other → ⊥)

-- And it is the only one of its transition.
abbrev pub OneFault : Type 0
OneFault = (m : Model) (v : Visit) (g : ℕ) (a b : Met) → IfSome v.cost InRange → IsFaultOf m v g a → IsFaultOf m v g b → a ≡ b

-- No fault is met in the visited state, and in the states that steps lead to from there none at the spots that a visit
-- evaluates there.
pub record PassesNone (m : Model) (v : Visit) : Type 0 where
  pub here : (spot : Spot) (kind : FaultKind) → MeetsIn m v.prune v.cost v.state spot kind → ⊥
  pub after :
      (g : ℕ) (weight : Option ℤ) (next : PlainState) → Step m v.state g weight next
      → (spot : Spot) (kind : FaultKind) → is_on_arrival spot ≡ true → MeetsIn m v.prune (join m.join v.cost weight) next spot kind → ⊥

-- Where a batch is found of a state that was looked at before without a fault, so that it is inner and its floor is known,
-- no fault is passed over.
abbrev pub NoFaultPassed : Type 0
NoFaultPassed =
    (m : Model) (v : Visit) (batch : Batch) (floor : Option ℤ) → Inner m v.state → IfSome v.cost InRange → IsFloor m v.prune v.state v.cost floor
    → expansion m v ≡ Ok batch → PassesNone m v

-- ---- the same, kind by kind

-- a batch of a visit: each letter is a successor that the best word does not prune
abbrev pub LettersSound : Model → Visit → Batch → Type 0
LettersSound m v batch = (n : Node) → Has batch.letters n → IsSuccessor m v n.transition n × (Prunes m v.best n → ⊥)

-- each pruned node is a successor that the best word prunes
abbrev pub PrunedSound : Model → Visit → Batch → Type 0
PrunedSound m v batch = (n : Node) → Has batch.pruned n → IsSuccessor m v n.transition n × Prunes m v.best n

-- each offer is the total of a step to a base state
abbrev pub OffersSound : Model → Visit → Batch → Type 0
OffersSound m v batch = (o : Offer) → Has batch.offers o → IsTotal m v o.transition o.cost

-- the total of a step to a base state, which is offered
abbrev pub IsOffered : Model → Visit → Batch → ℕ → Type 0
IsOffered m v batch g = (total : ℤ) × IsTotal m v g total × Has batch.offers (record { cost = total; transition = g })

-- a successor, which is a letter, or pruned
abbrev pub IsKept : Model → Visit → Batch → ℕ → Type 0
IsKept m v batch g = (n : Node) × IsSuccessor m v g n × (Has batch.letters n ⊎ Has batch.pruned n)

-- each considered and enabled transition leads out, or is offered, or is kept
abbrev pub Accounted : Model → Visit → Batch → Type 0
Accounted m v batch = (g : ℕ) → Considered m v.state g → Enabled m v.state g → LeadsOut m v g ⊎ (IsOffered m v batch g ⊎ IsKept m v batch g)

-- the transitions of each kind ascend
pub record Ascending (batch : Batch) : Type 0 where
  pub letters : IsStrictlyIncreasing (map (λ (n : Node). n.transition) batch.letters)
  pub offers : IsStrictlyIncreasing (map (λ (o : Offer). o.transition) batch.offers)
  pub pruned : IsStrictlyIncreasing (map (λ (n : Node). n.transition) batch.pruned)

pub record IsBatch (m : Model) (v : Visit) (batch : Batch) : Type 0 where
  pub letters : LettersSound m v batch
  pub pruned : PrunedSound m v batch
  pub offers : OffersSound m v batch
  pub accounted : Accounted m v batch
  pub ascending : Ascending batch

abbrev pub BatchFound : Type 0
BatchFound = (m : Model) (v : Visit) (batch : Batch) → Inner m v.state → IfSome v.cost InRange → expansion m v ≡ Ok batch → IsBatch m v batch

-- ---- each transition has one fate

-- A transition that leads out has no total and makes no node; one with a total makes no node; and the total and the node
-- of a transition are each one.
pub record OneFate (m : Model) (v : Visit) (g : ℕ) : Type 0 where
  pub out_total : LeadsOut m v g → (total : ℤ) → IsTotal m v g total → ⊥
  pub out_node : LeadsOut m v g → (n : Node) → IsSuccessor m v g n → ⊥
  pub total_node : (total : ℤ) → IsTotal m v g total → (n : Node) → IsSuccessor m v g n → ⊥
  pub one_total : (a b : ℤ) → IsTotal m v g a → IsTotal m v g b → a ≡ b
  pub one_node : (a b : Node) → IsSuccessor m v g a → IsSuccessor m v g b → a ≡ b

abbrev pub FatesExclude : Type 0
FatesExclude = (m : Model) (v : Visit) (g : ℕ) → OneFate m v g
