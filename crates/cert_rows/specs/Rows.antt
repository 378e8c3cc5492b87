-- What a certificate says of the nodes that a pass of one shard kept.
use Rattle.std.specs.Prelude.{◌≡◌, ℕ, ◌+◌, ◌⊎◌, zero, suc, Bool, true, false, List, [], ◌∷◌, length, slice_get, Option, Some, None, IfSome, ℤ, pos}
use Rattle.dp_model.specs.Costs.{InRange, join}
use Rattle.dp_model.specs.declared.parts.PlainState.{PlainState}
use Rattle.dp_steps.specs.States.{Considered, Enabled, Step}
use Rattle.dp_claims.specs.Enough.{Has}
use Rattle.state_layout.specs.declared.node.Node.{Node}
use Rattle.pass_ledger.specs.Passes.{Pass, StartsInner, IsStart}
use Rattle.pass_ledger.specs.Rows.{row}
use Rattle.pass_ledger.specs.Records.{IsSuccessor, IsPruned, visit_of}
use Rattle.pass_ledger.specs.Ledgers.{Ledger, Closed, DropsNone}
use Rattle.pass_ledger.specs.declared.records.LedgerRow.{LedgerRow}
use Rattle.pass_ledger.specs.declared.records.PrunedAt.{PrunedAt}
use Rattle.pass_ledger.specs.declared.records.ShardRecord.{ShardRecord}
use Rattle.pass_ledger.specs.declared.records.Visit.{Visit}
use Rattle.cert_types.specs.declared.cert.Cert.{Cert}
use Rattle.cert_types.specs.declared.nodes.CertNode.{CertNode}
use Rattle.cert_types.specs.declared.nodes.CertStep.{CertStep}
use Rattle.cert_laws.specs.Shown.{layer_of, ClaimHolds, claimed_word}

-- ---- how a node was made, and what became of it

-- The node is the successor, by the transition that is written, of the node that was kept at the written place of the layer
-- before.
pub record IsMadeBy (p : Pass) (before : List Node) (n : Node) (step : CertStep) : Type 0 where
  pub from : Node
  pub there : slice_get before step.parent ≡ Some from
  pub visit : ℕ
  pub successor : IsSuccessor p 0 visit from step.dp_ground n

-- no step made the target's node, in layer 0, and a step each node of a later layer
abbrev pub IsMade : Pass → List LedgerRow → (l : ℕ) → Node → Option CertStep → Type 0
IsMade p rows zero n None = IsStart p n
IsMade p rows zero n (Some step) = ⊥
IsMade p rows (suc l) n None = ⊥
IsMade p rows (suc l) n (Some step) = IsMadeBy p (row rows l).kept n step

-- a node is cut where it was pruned, and open where it was visited, or, in the last closed layer, still waits for that
abbrev pub IsMarked : List LedgerRow → (waiting : List Node) → List Visit → List PrunedAt → (l : ℕ) → Node → (cut : Bool) → Type 0
IsMarked rows waiting visits pruned l n true = IsPruned pruned n
IsMarked rows waiting visits pruned l n false = Has visits (visit_of l n) ⊎ ((l + 1 ≡ length rows) × Has waiting n)

-- The layers say of each kept node, at its place, how it was made and what became of it.
pub record AreRows (p : Pass) (rows : List LedgerRow) (waiting : List Node) (visits : List Visit) (pruned : List PrunedAt) (layers : List (List CertNode)) : Type 0 where
  pub wide : (l : ℕ) → length (layer_of layers l) ≡ length (row rows l).kept
  pub made : (l place : ℕ) (n : Node) (c : CertNode) → slice_get (row rows l).kept place ≡ Some n → slice_get (layer_of layers l) place ≡ Some c → IsMade p rows l n c.made
  pub marked : (l place : ℕ) (n : Node) (c : CertNode) → slice_get (row rows l).kept place ≡ Some n → slice_get (layer_of layers l) place ≡ Some c → IsMarked rows waiting visits pruned l n c.cut

-- ---- a pass that is exhausted

-- the transition leads by a step from the node, at a joined cost in range
abbrev pub LeadsOnward : Pass → Node → (t : ℕ) → Type 0
LeadsOnward p n t = (weight : Option ℤ) × (next : PlainState) × Step p.model n.state t weight next × IfSome (join p.model.join n.cost weight) InRange

-- each considered and enabled transition of a visited node does so
abbrev pub LeadOnward : Pass → List Visit → Type 0
LeadOnward p visits = (v : Visit) → Has visits v → (t : ℕ) → Considered p.model v.node.state t → Enabled p.model v.node.state t → LeadsOnward p v.node t

-- A pass of one shard, which dropped no node and found nothing better than the claimed word: its ledger is closed, with that
-- word before it and after it.
pub record IsExhausted (p : Pass) (r : ShardRecord) (claimed : ℕ) : Type 0 where
  pub alone : p.shards ≡ 1
  pub inner : StartsInner p
  pub ledger : Ledger p (r ∷ [])
  pub closed : Closed p (r ∷ []) claimed claimed
  pub drops_none : DropsNone p (r ∷ [])
  pub idle : r.waiting ≡ []
  pub onward : LeadOnward p r.visits

-- the certificate of such a pass: its nodes are the kept ones, and its claim is legal and has the claimed word
pub record IsCertOf (p : Pass) (r : ShardRecord) (claimed : ℕ) (cert : Cert) : Type 0 where
  pub keep : cert.keep ≡ p.keep
  pub prune : cert.prune ≡ p.prune
  pub claim : ClaimHolds p.model cert.claim
  pub claimed_is : claimed_word p.model cert.claim ≡ pos claimed
  pub rows : AreRows p r.rows r.waiting r.visits r.pruned cert.layers
