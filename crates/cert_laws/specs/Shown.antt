-- When a certificate shows what it claims of a model. It knows nothing of how a search found it.
use Rattle.std.specs.Prelude.{◌≡◌, ℕ, ◌+◌, ◌≤◌, zero, suc, true, false, ◌⊎◌, List, [], ◌∷◌, ◌++◌, slice_get, get_or, Option, Some, None, option_and_then, IfSome, ℤ, pos, ◌≤ℤ◌}
use Rattle.dp_model.specs.Costs.{InRange, join, join_onto, order_word}
use Rattle.dp_model.specs.declared.answers.Claim.{Claim}
use Rattle.dp_model.specs.declared.answers.Claim.TheVariants.{Optimal, Infeasible}
use Rattle.dp_model.specs.declared.answers.Keep.{Keep}
use Rattle.dp_model.specs.declared.answers.Keep.TheVariants.{Layer, All}
use Rattle.dp_model.specs.declared.parts.PlainState.{PlainState}
use Rattle.dp_model.specs.declared.whole.Model.{Model}
use Rattle.dp_steps.specs.States.{Base, Considered, Enabled, Forbidden, Inner, Step}
use Rattle.dp_steps.specs.Lists.{Path, Prefix, Solution}
use Rattle.dp_steps.specs.Bounds.{IsFloor}
use Rattle.dp_claims.specs.Dominance.{Covers}
use Rattle.cert_types.specs.declared.cert.Cert.{Cert}
use Rattle.cert_types.specs.declared.nodes.CertNode.{CertNode}
use Rattle.cert_types.specs.declared.nodes.CertStep.{CertStep}

-- ---- the nodes of a certificate

-- the nodes of a layer; behind the last layer there are none
abbrev pub layer_of : List (List CertNode) → ℕ → List CertNode
layer_of layers l = get_or layers l []

-- this node stands at the place of the layer
abbrev pub IsAt : Cert → (l place : ℕ) → CertNode → Type 0
IsAt cert l place n = slice_get (layer_of cert.layers l) place ≡ Some n

-- the step that made the node at a place, if there is one
abbrev pub made_at : List (List CertNode) → (l place : ℕ) → Option CertStep
made_at layers l place = option_and_then (λ (n : CertNode). n.made) (slice_get (layer_of layers l) place)

-- the list of a node that a step made, where these are the lists of the layer before
abbrev pub list_by : (ℕ → List ℕ) → Option CertStep → List ℕ
list_by before None = []
list_by before (Some step) = before step.parent ++ step.dp_ground ∷ []

-- A node's list is its parent's with its step; that of the target's node, in layer 0, is empty.
abbrev pub list_of : List (List CertNode) → (l place : ℕ) → List ℕ
list_of layers zero place = []
list_of layers (suc l) place = list_by (list_of layers l) (made_at layers (suc l) place)

-- The node at this place is there, and its list is a prefix that leads to this state with this cost so far.
pub record Stands (m : Model) (cert : Cert) (l place : ℕ) (s : PlainState) (cost : Option ℤ) : Type 0 where
  pub node : CertNode
  pub at : IsAt cert l place node
  pub path : Path m (list_of cert.layers l place) s cost
  pub inner : Inner m s

-- ---- words and costs

abbrev pub word : Model → Option ℤ → ℤ
word m cost = order_word m.minimize m.join cost

-- the claimed word: that of the claimed cost, and for a model without legal lists the one that is above those of all costs
abbrev pub claimed_word : Model → Claim → ℤ
claimed_word m (Optimal found) = word m (Some found.cost)
claimed_word m Infeasible = pos 18446744073709551615

-- the word of this number is not less than the claimed word
abbrev pub IsNotBelow : Model → Claim → ℤ → Type 0
IsNotBelow m claim n = claimed_word m claim ≤ℤ word m (Some n)

-- there is a floor, and its word is not less than the claimed word
abbrev pub IsHigh : Model → Claim → (floor : Option ℤ) → Type 0
IsHigh m claim None = ⊥
IsHigh m claim (Some floor) = IsNotBelow m claim floor

-- ---- what covers

-- what covers a node of this layer: a node of it, or with `all` of any layer up to it
abbrev pub MayCover : Keep → (layer l : ℕ) → Type 0
MayCover Layer layer l = l ≡ layer
MayCover All layer l = l ≤ layer

-- A node of the certificate, of this layer, or with `all` of any layer up to it, covers a state with its cost so far. Its
-- list must be a prefix.
pub record IsCovered (m : Model) (cert : Cert) (layer : ℕ) (s : PlainState) (cost : Option ℤ) : Type 0 where
  pub l : ℕ
  pub place : ℕ
  pub state : PlainState
  pub so_far : Option ℤ
  pub may : MayCover cert.keep layer l
  pub stands : Stands m cert l place state so_far
  pub covers : Covers m cert.prune state so_far s cost

-- ---- where transitions lead

-- The transition leads by a step to a state, with the joined cost, which is in range.
pub record LeadsTo (m : Model) (s : PlainState) (cost : Option ℤ) (t : ℕ) (next : PlainState) (joined : Option ℤ) : Type 0 where
  pub weight : Option ℤ
  pub step : Step m s t weight next
  pub is : joined ≡ join m.join cost weight
  pub in_range : IfSome joined InRange

-- The state is base, and its total, in range, has a word not less than the claimed word.
pub record EndsHigh (m : Model) (claim : Claim) (s : PlainState) (cost : Option ℤ) : Type 0 where
  pub base : ℤ
  pub total : ℤ
  pub is_base : Base m s base
  pub is : total ≡ join_onto m.join cost base
  pub in_range : InRange total
  pub high : IsNotBelow m claim total

-- The state is inner and has its floor, where there are floors: no dual bound is a fault. The floor's word is not less than
-- the claimed word, or a node covers the state.
pub record GoesOn (m : Model) (cert : Cert) (layer : ℕ) (s : PlainState) (cost : Option ℤ) : Type 0 where
  pub inner : Inner m s
  pub floor : Option ℤ
  pub is_floor : IsFloor m cert.prune s cost floor
  pub needless : IsHigh m cert.claim floor ⊎ IsCovered m cert layer s cost

-- What a certificate says of a successor, for this layer: it is not allowed, or base and no better than the claim, or inner and
-- needless.
abbrev pub IsSettled : Model → Cert → (layer : ℕ) → PlainState → Option ℤ → Type 0
IsSettled m cert layer s cost = Forbidden m s ⊎ (EndsHigh m cert.claim s cost ⊎ GoesOn m cert layer s cost)

-- the transition leads, without a fault, to a successor that is settled
pub record Accounts (m : Model) (cert : Cert) (l : ℕ) (s : PlainState) (cost : Option ℤ) (t : ℕ) : Type 0 where
  pub next : PlainState
  pub joined : Option ℤ
  pub leads : LeadsTo m s cost t next joined
  pub settled : IsSettled m cert (l + 1) next joined

-- ---- the five clauses

-- 1: a claimed list is legal, and its cost is the claimed one
abbrev pub ClaimHolds : Model → Claim → Type 0
ClaimHolds m (Optimal found) = Solution m found.steps found.cost
ClaimHolds m Infeasible = Unit {0}

-- the target is base, and the word of its base cost is not less than the claimed word
abbrev pub TargetEnds : Model → Claim → Type 0
TargetEnds m claim = (base : ℤ) × Base m m.target base × IsNotBelow m claim base

-- layer 0 is one node alone, which is the target's
abbrev pub StartsAlone : Cert → Type 0
StartsAlone cert = (n : CertNode) × (slice_get cert.layers 0 ≡ Some (n ∷ []))

-- 2: the target is not allowed; or it is base, and no better than the claim; or layer 0 is its node alone
abbrev pub TargetHolds : Model → Cert → Type 0
TargetHolds m cert = Forbidden m m.target ⊎ (TargetEnds m cert.claim ⊎ StartsAlone cert)

-- 3: the node's list is a prefix to its state
abbrev pub NodeHolds : Model → Cert → (l place : ℕ) → Type 0
NodeHolds m cert l place = (s : PlainState) × Prefix m (list_of cert.layers l place) s

-- 4: with pruning on the state has a floor, whose word is not less than the claimed word
abbrev pub CutHolds : Model → Cert → PlainState → Option ℤ → Type 0
CutHolds m cert s cost = (floor : ℤ) × IsFloor m cert.prune s cost (Some floor) × IsNotBelow m cert.claim floor

-- 5: each considered and enabled transition is accounted for
abbrev pub StepsHold : Model → Cert → (l : ℕ) → PlainState → Option ℤ → Type 0
StepsHold m cert l s cost = (t : ℕ) → Considered m s t → Enabled m s t → Accounts m cert l s cost t

-- The certificate shows its claim.
pub record Shown (m : Model) (cert : Cert) : Type 0 where
  -- 1: the claimed list is legal, at the claimed cost
  pub claim : ClaimHolds m cert.claim
  -- 2: the target ends a list that is no better, or is no state of any, or is the node of layer 0
  pub target : TargetHolds m cert
  -- 3: each node's list is a prefix to its state
  pub nodes : (l place : ℕ) (n : CertNode) → IsAt cert l place n → NodeHolds m cert l place
  -- 4: each cut node has a floor that is no better than the claim
  pub cuts : (l place : ℕ) (s : PlainState) (cost : Option ℤ) (stands : Stands m cert l place s cost) → stands.node.cut ≡ true → CutHolds m cert s cost
  -- 5: each step from an open node leads to what is no better, or is covered by a node
  pub steps : (l place : ℕ) (s : PlainState) (cost : Option ℤ) (stands : Stands m cert l place s cost) → stands.node.cut ≡ false → StepsHold m cert l s cost
