-- What the shards of a best-first search left, when each of them had ended, and what is read off it.
use Rattle.std.specs.Prelude.{◌≡◌, ℕ, ◌+◌, ◌-◌, ◌≤◌, ◌<◌, Bool, List, length, slice_get, Option, Some, None, IfSome, ◌≤ℤ◌}
use Rattle.board_words.specs.Steps.{best_known}
use Rattle.board_words.specs.declared.seat.View.{View}
use Rattle.cost_laws.specs.Orders.{InWideRange}
use Rattle.dp_model.specs.Costs.{order_word}
use Rattle.dp_model.specs.declared.parts.JoinOp.{JoinOp}
use Rattle.path_log.specs.Paths.{Log}
use Rattle.pass_ledger.specs.Passes.{Pass, StartsInner}
use Rattle.pass_ledger.specs.declared.records.FaultHere.{FaultHere}
use Rattle.pass_ledger.specs.declared.records.Held.{Held}
use Rattle.best_ledger.specs.Laws.{AllDone, PrunesAbove, known_pairs, visits_of}
use Rattle.best_ledger.specs.Ledgers.{IsBest}
use Rattle.best_ledger.specs.Records.{record_of, Together, HasArrived}
use Rattle.best_ledger.specs.Searches.{BestSearch, pass_of}
use Rattle.best_ledger.specs.declared.records.BestRecord.{BestRecord}
use Rattle.best_shard.specs.Calls.{IsEnd}
use Rattle.best_shard.specs.declared.shard.BestShardEnd.{BestShardEnd}
use Rattle.best_ends.specs.declared.tally.BestTally.{BestTally}

-- each shard handed back the parts of its record
pub record AreEnds (p : Pass) (records : List BestRecord) (ends : List BestShardEnd) (logs : List Log) : Type 0 where
  pub ends_long : length ends ≡ p.shards
  pub logs_long : length logs ≡ p.shards
  pub each : (i : ℕ) (e : BestShardEnd) (log : Log) → slice_get ends i ≡ Some e → slice_get logs i ≡ Some log → IsEnd p i (record_of records i) e log

-- some record has a fault
abbrev pub HasFault : Pass → List BestRecord → Type 0
HasFault p records = (i : ℕ) × (f : FaultHere) × (i < p.shards) × ((record_of records i).fault ≡ Some f)

-- What the shards left: a record of each, which are those of one search. The views are those of the board's whole seat before the
-- search and after it, and the cause is the halt word: where there was no halt, all records are done, and all letters have arrived.
pub record AreLeft (b : BestSearch) (records : List BestRecord) (before after : View) (tally : BestTally) (cause : ℕ) : Type 0 where
  pub inner : StartsInner (pass_of b)
  pub long : length records ≡ b.shards
  pub together : Together (pass_of b) records
  pub ends : AreEnds (pass_of b) records tally.ends.items tally.logs.items
  pub best_is : IsBest (pass_of b) records (best_known before) (best_known after)
  pub prunes : PrunesAbove (pass_of b) records (best_known after)
  pub gained : ℕ
  pub drawn : after.drawn ≡ before.drawn + gained
  pub few_drawn : gained ≤ length (known_pairs records b.shards)
  pub late : after.late ≡ after.drawn - after.limit
  pub visits : tally.visited + (after.drawn - after.limit) ≡ gained + (before.drawn - after.limit)
  pub cause_is : cause ≡ after.raised
  pub all_done : cause ≡ 0 → AllDone (pass_of b) records × HasArrived (pass_of b) records × (gained ≡ visits_of records b.shards) × (after.drawn - after.limit ≡ before.drawn - after.limit)
  pub spent : cause ≡ 1 → before.drawn - after.limit < after.drawn - after.limit
  pub faulted : 3 ≤ cause → HasFault (pass_of b) records

-- ---- what is read off

-- what is held can be compared by its order word
abbrev pub AreWide : List BestShardEnd → Type 0
AreWide ends = (i : ℕ) (e : BestShardEnd) → slice_get ends i ≡ Some e → IfSome e.held (λ h. InWideRange h.cost)

-- the best of what the shards hold: none where none holds a solution
abbrev pub IsBestHeld : (minimize : Bool) → JoinOp → List BestShardEnd → Option Held → Type 0
IsBestHeld minimize operator ends None = (i : ℕ) (e : BestShardEnd) → slice_get ends i ≡ Some e → e.held ≡ None
IsBestHeld minimize operator ends (Some best) =
    ((i : ℕ) × (e : BestShardEnd) × (slice_get ends i ≡ Some e) × (e.held ≡ Some best))
    × ((i : ℕ) (e : BestShardEnd) (h : Held) → slice_get ends i ≡ Some e → e.held ≡ Some h → order_word minimize operator (Some best.cost) ≤ℤ order_word minimize operator (Some h.cost))

-- the fault of some shard: none where none met a fault
abbrev pub IsSomeFault : List BestShardEnd → Option FaultHere → Type 0
IsSomeFault ends None = (i : ℕ) (e : BestShardEnd) → slice_get ends i ≡ Some e → e.fault ≡ None
IsSomeFault ends (Some fault) = (i : ℕ) × (e : BestShardEnd) × (slice_get ends i ≡ Some e) × (e.fault ≡ Some fault)
