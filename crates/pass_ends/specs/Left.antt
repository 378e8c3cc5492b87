-- What the shards of a pass left, when each of them had ended, and what is read off it.
use Rattle.std.specs.Prelude.{◌≡◌, ℕ, ◌+◌, ◌-◌, ◌≤◌, ◌<◌, Bool, List, length, slice_get, Option, Some, None, IfSome, ℤ, ◌≤ℤ◌}
use Rattle.board_words.specs.Steps.{best_known}
use Rattle.board_words.specs.declared.seat.View.{View}
use Rattle.cost_laws.specs.Orders.{InWideRange}
use Rattle.dom_store.specs.Order.{IsLeastFloor}
use Rattle.dp_model.specs.Costs.{order_word}
use Rattle.dp_model.specs.declared.parts.JoinOp.{JoinOp}
use Rattle.path_log.specs.Paths.{Log}
use Rattle.pass_ledger.specs.Counts.{kept_pairs, visits_of}
use Rattle.pass_ledger.specs.Ledgers.{AllDone, IsBest, PrunesAbove}
use Rattle.pass_ledger.specs.Passes.{Pass, StartsInner}
use Rattle.pass_ledger.specs.Records.{record_of, Together}
use Rattle.pass_ledger.specs.declared.records.FaultHere.{FaultHere}
use Rattle.pass_ledger.specs.declared.records.Held.{Held}
use Rattle.pass_ledger.specs.declared.records.ShardRecord.{ShardRecord}
use Rattle.shard_core.specs.Calls.{IsEnd}
use Rattle.shard_core.specs.declared.shard.ShardEnd.{ShardEnd}
use Rattle.pass_ends.specs.Ends.{dropped_of}
use Rattle.pass_ends.specs.declared.tally.Tally.{Tally}

-- each shard handed back the parts of its record
pub record AreEnds (p : Pass) (records : List ShardRecord) (ends : List ShardEnd) (logs : List Log) : Type 0 where
  pub ends_long : length ends ≡ p.shards
  pub logs_long : length logs ≡ p.shards
  pub each : (i : ℕ) (e : ShardEnd) (log : Log) → slice_get ends i ≡ Some e → slice_get logs i ≡ Some log → IsEnd p i (record_of records i) e log

-- some record has a fault
abbrev pub HasFault : Pass → List ShardRecord → Type 0
HasFault p records = (i : ℕ) × (f : FaultHere) × (i < p.shards) × ((record_of records i).fault ≡ Some f)

-- What the shards left: a record of each, which are those of one pass. The views are those of the board's whole seat before the
-- pass and after it, and the cause is the halt word: where there was no halt, all records are done. Where the budget was spent, no shard
-- ran out of memory, so the numbers below the budget are those of visits.
pub record AreLeft (p : Pass) (records : List ShardRecord) (before after : View) (tally : Tally) (cause : ℕ) : Type 0 where
  pub inner : StartsInner p
  pub long : length records ≡ p.shards
  pub together : Together p records
  pub ends : AreEnds p records tally.ends.items tally.logs.items
  pub share : tally.share ≡ p.share
  pub best_is : IsBest p records (best_known before) (best_known after)
  pub prunes : PrunesAbove p records (best_known after)
  pub gained : ℕ
  pub drawn : after.drawn ≡ before.drawn + gained
  pub few_drawn : gained ≤ length (kept_pairs records p.shards)
  pub late : after.late ≡ after.drawn - after.limit
  pub visits : tally.visited + (after.drawn - after.limit) ≡ gained + (before.drawn - after.limit)
  pub cause_is : cause ≡ after.raised
  pub all_done : cause ≡ 0 → AllDone p records × (gained ≡ visits_of records p.shards) × (after.drawn - after.limit ≡ before.drawn - after.limit)
  pub spent : cause ≡ 1 → before.drawn - after.limit < after.drawn - after.limit
  pub spent_visits : cause ≡ 1 → tally.visited ≡ visits_of records p.shards
  pub faulted : 3 ≤ cause → HasFault p records

-- ---- what is read off

-- what is held can be compared by its order word
abbrev pub AreWide : List ShardEnd → Type 0
AreWide ends = (i : ℕ) (e : ShardEnd) → slice_get ends i ≡ Some e → IfSome e.held (λ h. InWideRange h.cost)

-- the best of what the shards hold: none where none holds a solution
abbrev pub IsBestHeld : (minimize : Bool) → JoinOp → List ShardEnd → Option Held → Type 0
IsBestHeld minimize operator ends None = (i : ℕ) (e : ShardEnd) → slice_get ends i ≡ Some e → e.held ≡ None
IsBestHeld minimize operator ends (Some best) =
    ((i : ℕ) × (e : ShardEnd) × (slice_get ends i ≡ Some e) × (e.held ≡ Some best))
    × ((i : ℕ) (e : ShardEnd) (h : Held) → slice_get ends i ≡ Some e → e.held ≡ Some h → order_word minimize operator (Some best.cost) ≤ℤ order_word minimize operator (Some h.cost))

-- the fault of some shard: none where none met a fault
abbrev pub IsSomeFault : List ShardEnd → Option FaultHere → Type 0
IsSomeFault ends None = (i : ℕ) (e : ShardEnd) → slice_get ends i ≡ Some e → e.fault ≡ None
IsSomeFault ends (Some fault) = (i : ℕ) × (e : ShardEnd) × (slice_get ends i ≡ Some e) × (e.fault ≡ Some fault)

-- how many nodes the shards dropped, and the best floor of these
pub record AreDropped (p : Pass) (records : List ShardRecord) (count : ℕ) (floor : Option ℤ) : Type 0 where
  pub count_is : count ≡ length (dropped_of records p.shards)
  pub floor_is : IsLeastFloor p.model.minimize p.model.join (dropped_of records p.shards) floor
