-- What the calls of a shard are, in the words of the record for which it stands.
use Rattle.std.specs.Prelude.{◌≡◌, ℕ, ◌+◌, ◌<◌, ◌⊎◌, true, List, [], length, map, Option, Some, None, Ok, Err, pos}
use Rattle.dp_claims.specs.Enough.{Has}
use Rattle.dp_model.specs.declared.whole.Model.{Model}
use Rattle.dom_store.specs.Order.{IsLeastFloor}
use Rattle.pass_ledger.specs.Letters.{of}
use Rattle.path_log.specs.Paths.{Log}
use Rattle.pass_ledger.specs.Logs.{entry_of}
use Rattle.pass_ledger.specs.Records.{Own, step_id}
use Rattle.pass_ledger.specs.Passes.{Pass, word_of}
use Rattle.pass_ledger.specs.Events.{close, CanClose, prune, CanPrune, visit, CanVisit, post, CanPost}
use Rattle.pass_ledger.specs.declared.mail.Letter.{Letter}
use Rattle.pass_ledger.specs.declared.mail.Letter.TheVariants.{Mark}
use Rattle.pass_ledger.specs.declared.records.FaultHere.{FaultHere}
use Rattle.pass_ledger.specs.declared.records.Held.{Held}
use Rattle.pass_ledger.specs.declared.records.LedgerRow.{LedgerRow}
use Rattle.pass_ledger.specs.declared.records.PrunedAt.{PrunedAt}
use Rattle.pass_ledger.specs.declared.records.ShardRecord.{ShardRecord}
use Rattle.pass_ledger.specs.declared.records.Unsent.{Unsent}
use Rattle.state_layout.specs.declared.node.Node.{Node}
use Rattle.shard_core.specs.Offers.{is_news}
use Rattle.shard_core.specs.Stands.{Stands, EndsAs, all_dropped}
use Rattle.shard_core.specs.declared.shard.ShardEnd.{ShardEnd}
use Rattle.shard_core.specs.declared.shard.Closed.{Closed}
use Rattle.shard_core.specs.declared.shard.Shard.{Shard}
use Rattle.shard_core.specs.declared.shard.Visited.{Visited}
use Rattle.shard_core.specs.declared.shard.Visited.TheVariants.{Done, Fault, Memory}
use Rattle.spot_eval.specs.declared.ends.SpotFault.{SpotFault}
use Rattle.successors.specs.Searches as searches
use Rattle.successors.specs.Visits.{expansion}
use Rattle.successors.specs.declared.batch.Batch.{Batch}

-- The shard collects: all that its visits made and all marks of the layer are handed out. And a mark of each shard for the
-- layer that it collects was taken; layer 0 needs none.
pub record IsReady (p : Pass) (i : ℕ) (r : ShardRecord) : Type 0 where
  pub idle : r.waiting ≡ []
  pub sent : r.unsent ≡ []
  pub told : (l j : ℕ) → l + 1 ≡ length r.rows → j < p.shards → (to_you : ℕ) × (total : ℕ) × Has (of r.posted j) (Mark i (l + 1) to_you total)
  pub marked : (l j : ℕ) → l + 1 ≡ length r.rows → j < p.shards → (to_you : ℕ) × (total : ℕ) × Has (of r.received j) (Mark j (l + 1) to_you total)

-- the layer is closed by this row
pub record IsClosed {A B : Type 0} (p : Pass) (r : ShardRecord) (closed : Closed) (new : Shard A B) : Type 0 where
  pub row : LedgerRow
  pub can : CanClose p r row
  pub kept : closed.kept ≡ length row.kept
  pub dropped : closed.dropped ≡ length row.dropped
  pub floor : IsLeastFloor p.model.minimize p.model.join row.dropped closed.least_floor
  pub stands : Stands p new (close r row)

-- the first waiting node is pruned
pub record IsPruning {A B : Type 0} (p : Pass) (best : ℕ) (r : ShardRecord) (new : Shard A B) : Type 0 where
  pub node : Node
  pub rest : List Node
  pub can : CanPrune p r node rest best
  pub stands : Stands p new (prune r node rest best)

-- the word of what is held then is offered where it is better than what was held; else the same is held
abbrev pub IsOffer : Pass → (before after : Option Held) → Option ℕ → Type 0
IsOffer p before after None = after ≡ before
IsOffer p before after (Some word) = (is_news p.model.minimize p.model.join before after ≡ true) × (held : Held) × (after ≡ Some held) × (pos word ≡ word_of p held.cost)

-- The first waiting node is visited without a fault. Successors are pruned by the value that was given.
pub record IsVisit {A B : Type 0} (p : Pass) (i best : ℕ) (r : ShardRecord) (offer : Option ℕ) (new : Shard A B) : Type 0 where
  pub layer : ℕ
  pub node : Node
  pub rest : List Node
  pub made : List Unsent
  pub prunes : List PrunedAt
  pub can : CanVisit p i r layer node rest made prunes new.held None
  pub by_best : (q : PrunedAt) → Has prunes q → q.best ≡ best
  pub offer_is : IsOffer p r.held new.held offer
  pub stands : Stands p new (visit r layer node rest made prunes new.held None)

-- it is visited, and meets the fault
pub record IsFaulted {A B : Type 0} (p : Pass) (i : ℕ) (r : ShardRecord) (fault : SpotFault) (new : Shard A B) : Type 0 where
  pub layer : ℕ
  pub node : Node
  pub rest : List Node
  pub met : FaultHere
  pub spot : met.spot ≡ fault.spot
  pub kind : met.kind ≡ fault.kind
  pub can : CanVisit p i r layer node rest [] [] r.held (Some met)
  pub ends : EndsAs p new (visit r layer node rest [] [] r.held (Some met))

abbrev pub IsVisited : {A B : Type 0} → Pass → (i best : ℕ) → ShardRecord → Visited → Shard A B → Type 0
IsVisited p i best r (Done offer) new = IsVisit p i best r offer new
IsVisited p i best r (Fault fault) new = IsFaulted p i r fault new
IsVisited p i best r Memory new = EndsAs p new r

-- a node that is visited in a pass, at this place of the shard's log
abbrev pub visit_in : Pass → (i place : ℕ) → Node → (best : ℕ) → searches.Visit
visit_in p i place n best = record { prune = p.prune; state = n.state; cost = n.cost; id = step_id i place; best = best }

-- A visit answers a fault exactly where its expansion is this fault.
abbrev pub Finds : Model → searches.Visit → Visited → Type 0
Finds m v (Done offer) = (batch : Batch) × (expansion m v ≡ Ok batch)
Finds m v (Fault fault) = (last : Option ℕ) × (expansion m v ≡ Err (record { spot = fault.spot; kind = fault.kind; last = last }))
Finds m v Memory = Unit {0}

-- a letter is posted to the shard
pub record IsPosting {A B : Type 0} (p : Pass) (i : ℕ) (r : ShardRecord) (to : ℕ) (x : Letter) (new : Shard A B) : Type 0 where
  pub rest : List Unsent
  pub can : CanPost p i r to x rest
  pub stands : Stands p new (post r to x rest)

-- Nothing can be handed out: each letter of the visits was, and no layer is closed, or a node waits, or the marks of the last
-- closed layer were handed out too.
pub record IsQuiet (p : Pass) (i : ℕ) (r : ShardRecord) : Type 0 where
  pub sent : r.unsent ≡ []
  pub marks : (length r.rows ≡ 0) ⊎ ((0 < length r.waiting) ⊎ ((j : ℕ) → j < p.shards → (to_you : ℕ) × (total : ℕ) × Has (of r.posted j) (Mark i (length r.rows) to_you total)))

-- what is handed back are the parts of the record
pub record IsEnd (p : Pass) (i : ℕ) (r : ShardRecord) (end : ShardEnd) (log : Log) : Type 0 where
  pub own : Own p i r
  pub shard : end.shard ≡ i
  pub visited : end.visited ≡ length r.visits
  pub dropped : end.dropped ≡ length (all_dropped r.rows)
  pub floor : IsLeastFloor p.model.minimize p.model.join (all_dropped r.rows) end.least_floor
  pub held : end.held ≡ r.held
  pub fault : end.fault ≡ r.fault
  pub log_shard : log.shard ≡ i
  pub log_entries : log.entries ≡ map entry_of r.visits
