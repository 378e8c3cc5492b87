-- What the calls of a shard are, in the words of the record for which it stands.
use Rattle.std.specs.Prelude.{◌≡◌, ℕ, ◌+◌, ◌<◌, List, [], length, map, Option, Some, None}
use Rattle.dp_claims.specs.Enough.{Has}
use Rattle.path_log.specs.Paths.{Log}
use Rattle.pass_ledger.specs.Letters.{InOrder}
use Rattle.pass_ledger.specs.Passes.{Pass}
use Rattle.pass_ledger.specs.declared.records.FaultHere.{FaultHere}
use Rattle.pass_ledger.specs.declared.records.PrunedAt.{PrunedAt}
use Rattle.best_ledger.specs.Events.{take_letter, CanTake, prune, CanPrune, visit_node, CanVisit, post, CanPost}
use Rattle.best_ledger.specs.Histories.{visits_in}
use Rattle.best_ledger.specs.Logs.{entry_of}
use Rattle.best_ledger.specs.Records.{Own}
use Rattle.best_ledger.specs.declared.letters.BestLetter.{BestLetter}
use Rattle.best_ledger.specs.declared.records.BestRecord.{BestRecord}
use Rattle.best_ledger.specs.declared.records.ToPost.{ToPost}
use Rattle.state_layout.specs.declared.node.Node.{Node}
use Rattle.shard_core.specs.Calls.{IsOffer}
use Rattle.shard_core.specs.declared.shard.Visited.{Visited}
use Rattle.shard_core.specs.declared.shard.Visited.TheVariants.{Done, Fault, Memory}
use Rattle.spot_eval.specs.declared.ends.SpotFault.{SpotFault}
use Rattle.best_shard.specs.Stands.{Stands, EndsAs, clock_of}
use Rattle.best_shard.specs.declared.shard.BestShard.{BestShard}
use Rattle.best_shard.specs.declared.shard.BestShardEnd.{BestShardEnd}

-- a letter may come: it is of a shard, and its node is in order
pub record MayCome (p : Pass) (x : BestLetter) : Type 0 where
  pub from : x.from < p.shards
  pub lawful : InOrder p.model x.node

-- The letter is taken. Its node is open, or is covered.
pub record IsTaking {A B : Type 0} (p : Pass) (r : BestRecord) (x : BestLetter) (new : BestShard A B) : Type 0 where
  pub rest : List Node
  pub can : CanTake p r x rest
  pub stands : Stands p new (take_letter r x rest)

-- the node that was picked is pruned by this value
pub record IsPruning {A B : Type 0} (p : Pass) (best : ℕ) (r : BestRecord) (n : Node) (new : BestShard A B) : Type 0 where
  pub rest : List Node
  pub can : CanPrune p r n rest best
  pub stands : Stands p new (prune r n rest best)

-- The node that was picked is visited without a fault. The visit's stamp, which its letters have too, is one more than the clock.
-- Successors are pruned by the value that was given.
pub record IsVisit {A B : Type 0} (p : Pass) (i best : ℕ) (r : BestRecord) (n : Node) (offer : Option ℕ) (new : BestShard A B) : Type 0 where
  pub stamp : ℕ
  pub stamp_is : stamp ≡ clock_of r.history + 1
  pub rest : List Node
  pub made : List ToPost
  pub prunes : List PrunedAt
  pub can : CanVisit p i r stamp n rest made prunes new.held None
  pub by_best : (q : PrunedAt) → Has prunes q → q.best ≡ best
  pub offer_is : IsOffer p r.held new.held offer
  pub stands : Stands p new (visit_node r stamp n rest made prunes new.held None)

-- it is visited, and meets the fault
pub record IsFaulted {A B : Type 0} (p : Pass) (i : ℕ) (r : BestRecord) (n : Node) (fault : SpotFault) (new : BestShard A B) : Type 0 where
  pub stamp : ℕ
  pub stamp_is : stamp ≡ clock_of r.history + 1
  pub rest : List Node
  pub met : FaultHere
  pub spot : met.spot ≡ fault.spot
  pub kind : met.kind ≡ fault.kind
  pub can : CanVisit p i r stamp n rest [] [] r.held (Some met)
  pub ends : EndsAs p new (visit_node r stamp n rest [] [] r.held (Some met))

abbrev pub IsVisited : {A B : Type 0} → Pass → (i best : ℕ) → BestRecord → Node → Visited → BestShard A B → Type 0
IsVisited p i best r n (Done offer) new = IsVisit p i best r n offer new
IsVisited p i best r n (Fault fault) new = IsFaulted p i r n fault new
IsVisited p i best r n Memory new = EndsAs p new r

-- the letter is posted
pub record IsPosting {A B : Type 0} (p : Pass) (r : BestRecord) (u : ToPost) (new : BestShard A B) : Type 0 where
  pub rest : List ToPost
  pub can : CanPost p r u rest
  pub stands : Stands p new (post r u rest)

-- what is handed back are the parts of the record
pub record IsEnd (p : Pass) (i : ℕ) (r : BestRecord) (end : BestShardEnd) (log : Log) : Type 0 where
  pub own : Own p i r
  pub shard : end.shard ≡ i
  pub visited : end.visited ≡ length (visits_in r.history)
  pub held : end.held ≡ r.held
  pub fault : end.fault ≡ r.fault
  pub log_shard : log.shard ≡ i
  pub log_entries : log.entries ≡ map entry_of (visits_in r.history)
