-- A pass of one shard while its certificate is made.
use Rattle.std.specs.Prelude.{◌≡◌, ℕ, ◌+◌, ◌-◌, ◌≤◌, false, List, map, length, slice_get, Option, Some, None, pos, ◌≤ℤ◌}
use Rattle.dp_claims.specs.Enough.{Has}
use Rattle.path_log.specs.declared.logs.StepId.{StepId}
use Rattle.state_layout.specs.declared.node.Node.{Node}
use Rattle.pass_ledger.specs.Letters.{of}
use Rattle.pass_ledger.specs.Passes.{Pass, StartsInner, word_of}
use Rattle.pass_ledger.specs.Rows.{row}
use Rattle.pass_ledger.specs.Records.{Own}
use Rattle.pass_ledger.specs.declared.records.Held.{Held}
use Rattle.pass_ledger.specs.declared.records.LedgerRow.{LedgerRow}
use Rattle.pass_ledger.specs.declared.records.PrunedAt.{PrunedAt}
use Rattle.pass_ledger.specs.declared.records.ShardRecord.{ShardRecord}
use Rattle.pass_ledger.specs.declared.records.Visit.{Visit}
use Rattle.cert_types.specs.declared.nodes.CertNode.{CertNode}
use Rattle.cert_types.specs.declared.nodes.CertStep.{CertStep}
use Rattle.cert_rows.specs.Rows.{AreRows, LeadOnward}

-- ---- what is written of a layer

-- A node's parent is a visit, and a layer is visited in the order in which its nodes are kept. So where the visits of the layer
-- before are those from this number on, its parent's place is told by its visit's number.
abbrev pub step_for : (first : ℕ) → Option StepId → (transition : ℕ) → Option CertStep
step_for first None transition = None
step_for first (Some id) transition = Some (record { parent = id.place - first; dp_ground = transition })

abbrev pub node_for : (first : ℕ) → Node → CertNode
node_for first n = record { made = step_for first n.parent n.transition; cut = false }

abbrev pub nodes_for : (first : ℕ) → List Node → List CertNode
nodes_for first nodes = map (node_for first) nodes

-- ---- the record

-- The visits of the last closed layer are those from this number on, in the order in which its nodes are kept; those that wait are
-- the rest of them.
pub record InTurn (first : ℕ) (rows : List LedgerRow) (waiting : List Node) (visits : List Visit) : Type 0 where
  pub begun : first ≤ length visits
  pub visited : (k : ℕ) (v : Visit) → slice_get visits k ≡ Some v → v.layer + 1 ≡ length rows → (first ≤ k) × (slice_get (row rows v.layer).kept (k - first) ≡ Some v.node)
  pub waits : (i l : ℕ) (n : Node) → slice_get waiting i ≡ Some n → l + 1 ≡ length rows → slice_get (row rows l).kept (length visits - first + i) ≡ Some n

-- The record of a pass of one shard that goes on. It received all that it posted; nothing that it holds is better than the claimed
-- word, and it prunes by that word; it dropped no node. The layers that are written are those of its rows, but for rows without nodes
-- at their end.
pub record GoesOn (p : Pass) (claimed : ℕ) (r : ShardRecord) (layers : List (List CertNode)) (first : ℕ) : Type 0 where
  pub alone : p.shards ≡ 1
  pub inner : StartsInner p
  pub own : Own p 0 r
  pub arrived : of r.received 0 ≡ of r.posted 0
  pub above : (h : Held) → r.held ≡ Some h → pos claimed ≤ℤ word_of p h.cost
  pub pruned : (q : PrunedAt) → Has r.pruned q → claimed ≤ q.best
  pub drops_none : (l : ℕ) (n : Node) → Has (row r.rows l).dropped n → ⊥
  pub onward : LeadOnward p r.visits
  pub few : length layers ≤ length r.rows
  pub rows : AreRows p r.rows r.waiting r.visits r.pruned layers
  pub turn : InTurn first r.rows r.waiting r.visits
