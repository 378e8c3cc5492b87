-- When the check of a certificate tells a fault: where a list of the model meets one.
use Rattle.std.specs.Prelude.{◌≡◌, ℕ, ◌<◌, ◌≤◌, ◌⊎◌, Bool, true, false, List, [], ◌∷◌, ◌++◌, length, take, slice_get, Option, Some, None, ℤ}
use Rattle.dp_model.specs.declared.answers.Claim.{Claim}
use Rattle.dp_model.specs.declared.answers.Claim.TheVariants.{Optimal, Infeasible}
use Rattle.dp_model.specs.declared.answers.FaultKind.{FaultKind}
use Rattle.dp_model.specs.declared.answers.Spot.{Spot}
use Rattle.dp_model.specs.declared.answers.Spot.TheVariants as spots
use Rattle.dp_model.specs.declared.parts.PlainState.{PlainState}
use Rattle.dp_model.specs.declared.whole.Model.{Model}
use Rattle.dp_steps.specs.Faults.{Meets}
use Rattle.dp_steps.specs.States.{Considered, Enabled, IsForced}
use Rattle.visit_laws.specs.Fates.{is_on_arrival}
use Rattle.visit_laws.specs.Looks.{is_looked}
use Rattle.cert_types.specs.Lines.{line_of_claim, line_of_node}
use Rattle.cert_types.specs.declared.cert.Cert.{Cert}
use Rattle.cert_types.specs.declared.nodes.CertNode.{CertNode}
use Rattle.cert_laws.specs.Shown.{list_of, Accounts, IsAt, Stands, StartsAlone, TargetHolds}
use Rattle.cert_laws.specs.Checks.{checked}
use Rattle.cert_laws.specs.Told.{IsRightBefore}
use Rattle.cert_laws.specs.declared.answers.CertReason.TheVariants as reasons
use Rattle.cert_laws.specs.declared.answers.Checked.TheVariants.{No}

-- ---- which spots decide

-- The spot decides whether the step is taken from a state: it is one of a look at the state, a precondition of the transition
-- or of a forced one that is tested before it, or the transition's weight, its cost or one of its effects.
abbrev pub Decides : Model → ℕ → Spot → Type 0
Decides m g (spots.Precondition h j) = (h ≡ g) ⊎ (IsForced m h × ((h < g) ⊎ (IsForced m g → ⊥)))
Decides m g (spots.Weight h) = h ≡ g
Decides m g (spots.Cost h) = h ≡ g
Decides m g (spots.Effect h i) = h ≡ g
Decides m g spot = is_looked spot ≡ true

-- the same where a list may end: then the look alone decides
abbrev pub DecidesAt : Model → (next : Option ℕ) → Spot → Type 0
DecidesAt m None spot = is_looked spot ≡ true
DecidesAt m (Some g) spot = Decides m g spot

-- the spots of a transition that is considered and enabled: its weight, its cost and its effects
abbrev pub IsOfStep : ℕ → Spot → Type 0
IsOfStep g (spots.Weight h) = h ≡ g
IsOfStep g (spots.Cost h) = h ≡ g
IsOfStep g (spots.Effect h i) = h ≡ g
IsOfStep g spot = ⊥

-- ---- lists that meet a fault

-- the list meets a fault at one of these spots
abbrev pub MeetsAt : Model → (prune : Bool) → List ℕ → (Spot → Type 0) → Type 0
MeetsAt m prune steps At = (spot : Spot) × (kind : FaultKind) × At spot × Meets m prune steps spot kind

-- the target meets a fault when it is looked at
abbrev pub TargetMeets : Model → Type 0
TargetMeets m = MeetsAt m false [] (λ spot. is_looked spot ≡ true)

-- A front of the list meets a fault that decides whether its next step is taken, or what the whole list leads to. No dual bound
-- is evaluated.
pub record IsStopped (m : Model) (steps : List ℕ) : Type 0 where
  pub done : ℕ
  pub within : done ≤ length steps
  pub meets : MeetsAt m false (take done steps) (DecidesAt m (slice_get steps done))

-- the list leads to a base state, and its total is a fault
abbrev pub TotalMeets : Model → List ℕ → Type 0
TotalMeets m steps = (kind : FaultKind) × Meets m false steps spots.Total kind

-- The list meets a fault of the transition, which is considered and enabled; or with that step more it meets one on arrival.
abbrev pub StepMeets : Model → (prune : Bool) → List ℕ → ℕ → Type 0
StepMeets m prune steps g = MeetsAt m prune steps (IsOfStep g) ⊎ MeetsAt m prune (steps ++ g ∷ []) (λ spot. is_on_arrival spot ≡ true)

-- ---- nodes of a certificate

-- the list of a node meets a fault of a dual bound
abbrev pub CutMeets : Model → Cert → (l place : ℕ) → Type 0
CutMeets m cert l place = (i : ℕ) × (kind : FaultKind) × Meets m cert.prune (list_of cert.layers l place) (spots.Bound i) kind

-- a step from a node meets a fault, and each one before it is accounted for
pub record OpenMeets (m : Model) (cert : Cert) (l place : ℕ) : Type 0 where
  pub g : ℕ
  pub meets : StepMeets m cert.prune (list_of cert.layers l place) g
  pub before : (s : PlainState) (cost : Option ℤ) → Stands m cert l place s cost → (h : ℕ) → h < g → Considered m s h → Enabled m s h → Accounts m cert l s cost h

-- a fault stops the list of a node, or rejects the node
abbrev pub NodeMeets : Model → Cert → (l place : ℕ) → (cut : Bool) → Type 0
NodeMeets m cert l place true = IsStopped m (list_of cert.layers l place) ⊎ CutMeets m cert l place
NodeMeets m cert l place false = IsStopped m (list_of cert.layers l place) ⊎ OpenMeets m cert l place

-- a fault stops the claimed list, or it has no total
abbrev pub ClaimMeets : Model → Claim → Type 0
ClaimMeets m (Optimal found) = IsStopped m found.steps ⊎ TotalMeets m found.steps
ClaimMeets m Infeasible = ⊥

-- ---- where a fault is told, one is met

-- Where the check tells a fault, some list of the model meets one. Where no list does, no fault is told.
abbrev pub FaultHasList : Type 0
FaultHasList = (m : Model) (cert : Cert) (line : ℕ) → checked m cert ≡ No line reasons.Fault → (steps : List ℕ) × (spot : Spot) × (kind : FaultKind) × Meets m cert.prune steps spot kind

-- it is the first line
abbrev pub FirstLineMeets : Model → Cert → (line : ℕ) → Type 0
FirstLineMeets m cert line = (line ≡ cert.first) × (StartsAlone cert → ⊥) × TargetMeets m

-- it is the line of the claim
abbrev pub ClaimLineMeets : Model → Cert → (line : ℕ) → Type 0
ClaimLineMeets m cert line = (line ≡ line_of_claim cert.first) × ClaimMeets m cert.claim

-- it is the line of this node
pub record NodeLineMeets (m : Model) (cert : Cert) (line : ℕ) : Type 0 where
  pub l : ℕ
  pub place : ℕ
  pub n : CertNode
  pub at : IsAt cert l place n
  pub is_line : line ≡ line_of_node cert.first cert.claim cert.layers l place
  pub meets : NodeMeets m cert l place n.cut

-- Which list that is: at the first line the empty list, at the line of the claim a front of the
-- claimed list, at the line of a node a front of its list, or that list with one step more.
abbrev pub FaultIsMet : Type 0
FaultIsMet = (m : Model) (cert : Cert) (line : ℕ) → checked m cert ≡ No line reasons.Fault → FirstLineMeets m cert line ⊎ (ClaimLineMeets m cert line ⊎ NodeLineMeets m cert line)

-- ---- where one is met, a fault is told

-- The target meets a fault, and layer 0 is not its node alone.
abbrev pub TargetFaultTold : Type 0
TargetFaultTold = (m : Model) (cert : Cert) → (StartsAlone cert → ⊥) → TargetMeets m → checked m cert ≡ No cert.first reasons.Fault

-- The first line is right, and a fault stops the claimed list, or it has no total.
abbrev pub ClaimFaultTold : Type 0
ClaimFaultTold = (m : Model) (cert : Cert) → TargetHolds m cert → ClaimMeets m cert.claim → checked m cert ≡ No (line_of_claim cert.first) reasons.Fault

-- A fault stops the list of a node or rejects it, and all before its line is right.
abbrev pub NodeFaultTold : Type 0
NodeFaultTold =
    (m : Model) (cert : Cert) (l place : ℕ) (n : CertNode) → IsAt cert l place n → IsRightBefore m cert l place → NodeMeets m cert l place n.cut
    → checked m cert ≡ No (line_of_node cert.first cert.claim cert.layers l place) reasons.Fault
