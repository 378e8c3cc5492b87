-- When a running shard stands for a record of a pass.
use Rattle.std.specs.Prelude.{◌≡◌, ℕ, ◌+◌, ◌^◌, ◌≤◌, ◌<◌, Bool, true, List, [], ◌∷◌, ◌++◌, map, length, get_or, Option, Some, None, ℤ}
use Rattle.dp_claims.specs.Enough.{Has}
use Rattle.dp_model.specs.declared.answers.Keep.{Keep}
use Rattle.dp_model.specs.declared.parts.JoinOp.{JoinOp}
use Rattle.dp_model.specs.declared.parts.PlainState.{PlainState}
use Rattle.cost_laws.specs.Orders.{IsLawOf}
use Rattle.path_log.specs.declared.logs.Entry.{Entry}
use Rattle.state_layout.specs.Conditions.{IsLayoutOf, IsNodeOf}
use Rattle.state_layout.specs.Signatures.{owner_of}
use Rattle.state_layout.specs.declared.layout.Layout.{Layout}
use Rattle.state_layout.specs.declared.node.Node.{Node}
use Rattle.dom_store.specs.Contents.{IsCovered}
use Rattle.dom_store.specs.Order.{IsLeastFloor}
use Rattle.dom_store.specs.Past.{Past, past_node}
use Rattle.pass_ledger.specs.Groups.{unfinished}
use Rattle.pass_ledger.specs.Letters.{of, states_at, all_states_at}
use Rattle.pass_ledger.specs.Logs.{entry_of}
use Rattle.pass_ledger.specs.Passes.{Pass, StartsInner}
use Rattle.pass_ledger.specs.Past.{past_of}
use Rattle.pass_ledger.specs.Records.{Own}
use Rattle.pass_ledger.specs.Rows.{Received}
use Rattle.pass_ledger.specs.declared.mail.Letter.{Letter}
use Rattle.pass_ledger.specs.declared.mail.Letter.TheVariants.{Mark}
use Rattle.pass_ledger.specs.declared.records.FaultHere.{FaultHere}
use Rattle.pass_ledger.specs.declared.records.Held.{Held}
use Rattle.pass_ledger.specs.declared.records.LedgerRow.{LedgerRow}
use Rattle.pass_ledger.specs.declared.records.ShardRecord.{ShardRecord}
use Rattle.successors.specs.Searches.{Search}
use Rattle.shard_core.specs.Outgoing.{letters_of}
use Rattle.shard_core.specs.Layers.{nodes_at, busy_at, AreOf}
use Rattle.shard_core.specs.declared.layers.Layer.{Layer}
use Rattle.shard_core.specs.declared.shard.Shard.{Shard}

-- ---- the search that a shard belongs to

-- the law of costs is that of the model, and nodes are covered as the pass says
pub record Suited (p : Pass) (minimize : Bool) (operator : JoinOp) (prune less : Bool) (join : JoinOp) : Type 0 where
  pub law : IsLawOf p.model minimize operator
  pub covering : IsLawOf p.model less join
  pub prune_is : prune ≡ p.prune

-- ---- letters that are received

-- the shard keeps the layer of each sender's unfinished group
pub record Intake (shards : ℕ) (open_layers : List ℕ) (received : List (List Letter)) : Type 0 where
  pub long : length open_layers ≡ shards
  pub open_are : (j : ℕ) → j < shards → get_or open_layers j 1 ≡ (unfinished (1, 0) (of received j)).0

-- ---- nodes of the layers that are not closed

-- What a shard has collected: of each layer that is not closed the nodes are received ones, and cover all received ones; and
-- the layer is busy where a mark for it was taken whose total is above 0.
pub record Collects {B : Type 0} (p : Pass) (layer : ℕ) (layout : Layout) (collected : List (Layer B)) (start : Option Node) (received : List (List Letter)) : Type 0 where
  pub layouts : AreOf layout collected
  pub only : (d : ℕ) (n : Node) → Has (nodes_at collected d) n → Received p start received (layer + d) n
  pub all : (d : ℕ) (n : Node) → Received p start received (layer + d) n → IsCovered p.model p.prune (nodes_at collected d) n
  pub busy : (d : ℕ) → busy_at collected d ≡ true → (j : ℕ) × (from : ℕ) × (to_you : ℕ) × (total : ℕ) × (j < p.shards) × Has (of received j) (Mark from (layer + d) to_you total) × (0 < total)
  pub calm : (d j from to_you total : ℕ) → Has (of received j) (Mark from (layer + d) to_you total) → 0 < total → busy_at collected d ≡ true

-- ---- nodes of the closed layers

-- The past has the nodes that cover those of later layers: the kept ones of all rows, or none.
pub record Remembers (p : Pass) (keep : Keep) (layout : Layout) (past : Past) (rows : List LedgerRow) : Type 0 where
  pub keep_is : keep ≡ p.keep
  pub layout_is : past.layout ≡ layout
  pub nodes_are : past.nodes ≡ map past_node (past_of p.keep rows)

-- ---- letters that are handed out

-- The marks of the layer were handed out to the first shards, after all states of it. The counts are those of its states that
-- were handed out to each shard, and the total is that of all that were made, which fits its 64 bits: so each count does that
-- may still grow.
pub record Outbox (p : Pass) (layer : ℕ) (waiting letters : List Node) (told : ℕ) (sent : List ℕ) (total : ℕ) (posted : List (List Letter)) : Type 0 where
  pub few : told ≤ p.shards
  pub long : length sent ≡ p.shards
  pub told_are : (j : ℕ) → j < told → unfinished (1, 0) (of posted j) ≡ (layer + 1, 0)
  pub open_are : (j : ℕ) → told ≤ j → j < p.shards → (unfinished (1, 0) (of posted j)).0 ≡ layer
  pub sent_are : (j : ℕ) → j < p.shards → get_or sent j 0 ≡ states_at layer (of posted j)
  pub total_is : total ≡ all_states_at layer posted + length letters
  pub total_fits : total < 2 ^ 64
  pub held_back : 0 < told → (letters ≡ []) × (waiting ≡ [])

-- ---- what is handed back at the end

-- the dropped nodes of all rows
abbrev pub all_dropped : List LedgerRow → List Node
all_dropped [] = []
all_dropped (w ∷ rows) = w.dropped ++ all_dropped rows

-- What a shard hands back is the record's: the log of its visits, what is held, the fault, and what was dropped.
pub record Ends (p : Pass) (i : ℕ) (log : List Entry) (visited : ℕ) (held : Option Held) (fault : Option FaultHere) (dropped : ℕ) (floor : Option ℤ) (r : ShardRecord) : Type 0 where
  pub own : Own p i r
  pub log_is : log ≡ map entry_of r.visits
  pub visited_is : visited ≡ length r.visits
  pub held_is : held ≡ r.held
  pub fault_is : fault ≡ r.fault
  pub dropped_is : dropped ≡ length (all_dropped r.rows)
  pub floor_is : IsLeastFloor p.model.minimize p.model.join (all_dropped r.rows) floor

abbrev pub EndsAs : {A B : Type 0} → Pass → Shard A B → ShardRecord → Type 0
EndsAs p s r = (s.log.shard ≡ s.me) × Ends p s.me s.log.entries s.visited s.held s.fault s.dropped s.least_floor r

-- ---- the whole shard

-- it is a shard of the pass
pub record Belongs (p : Pass) (me shards share : ℕ) (search : Search) (layout : Layout) : Type 0 where
  pub below : me < p.shards
  pub shards_are : shards ≡ p.shards
  pub share_is : share ≡ p.share
  pub model : search.model ≡ p.model
  pub prune : search.prune ≡ p.prune
  pub layout_is : IsLayoutOf p.model layout
  pub owner : (state : PlainState) → owner_of layout state shards ≡ p.owner state
  pub inner : StartsInner p

pub record Stands {A B : Type 0} (p : Pass) (s : Shard A B) (r : ShardRecord) : Type 0 where
  pub belongs : Belongs p s.me s.shards s.share s.expander s.layout
  pub ends : EndsAs p s r
  pub fine : r.fault ≡ None
  pub start : (n : Node) → r.start ≡ Some n → IsNodeOf p.model n
  pub layer : s.layer ≡ length r.rows
  pub begun : s.layer ≡ 0 → r.waiting ≡ []
  pub waiting : s.waiting.items ≡ r.waiting
  pub letters : letters_of s.layout s.shards s.letters.items ≡ r.unsent
  pub intake : Intake p.shards s.open_layers.items r.received
  pub collects : Collects p s.layer s.layout s.collected.items r.start r.received
  pub past : Remembers p s.keep s.layout s.past r.rows
  pub outbox : Outbox p s.layer s.waiting.items s.letters.items s.told s.sent.items s.total r.posted
