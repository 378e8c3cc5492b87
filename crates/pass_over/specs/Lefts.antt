-- What the shards of a pass left when each had ended, and what was known of the whole seat before the pass.
use Rattle.std.specs.Prelude.{◌≡◌, ℕ, ◌-◌, ◌≤◌, min, List, length, slice_get, Some}
use Rattle.board_words.specs.Rules.{no_word, IsWhole}
use Rattle.board_words.specs.Seats.{SeatFacts}
use Rattle.board_words.specs.Steps.{best_known}
use Rattle.board_words.specs.declared.seat.View.{View}
use Rattle.path_log.specs.Paths.{Log}
use Rattle.pass_ledger.specs.Passes.{Pass, StartsInner}
use Rattle.pass_ledger.specs.Records.{record_of, Together}
use Rattle.pass_ledger.specs.declared.records.ShardRecord.{ShardRecord}
use Rattle.shard_core.specs.declared.shard.ShardEnd.{ShardEnd}
use Rattle.shard_seats.specs.Seats.{Sat}
use Rattle.shard_seats.specs.declared.ended.Ended.{Ended}
use Rattle.pass_ends.specs.Left.{AreEnds}
use Rattle.joined_seats.specs.Joined.{joined, with_less}

-- there is a record of each shard, and its seat knows what the record says
pub record HaveLeft (p : Pass) (seats : List SeatFacts) (ends : List ShardEnd) (logs : List Log) : Type 0 where
  pub records : List ShardRecord
  pub long : length records ≡ p.shards
  pub seats_long : length seats ≡ p.shards
  pub together : Together p records
  pub handed : AreEnds p records ends logs
  pub sat : (i : ℕ) (s : SeatFacts) → slice_get seats i ≡ Some s → (end : Ended) × Sat p i end s.view (record_of records i)

-- The seat is whole, and no halt was raised. So many of the numbers that it drew are below the budget, and its other draws were
-- late.
pub record IsBefore (p : Pass) (budget visits : ℕ) (v : View) : Type 0 where
  pub whole : IsWhole v
  pub few_shards : p.shards ≤ 64
  pub no_halt : v.raised ≡ 0
  pub limit : v.limit ≡ budget
  pub visits_are : visits ≡ min v.drawn budget
  pub late : v.late ≡ v.drawn - v.limit
  pub best_fits : best_known v ≤ no_word

-- The pass is over: the shards left this, and their seats were joined to what had stayed of the whole seat.
pub record IsOver (p : Pass) (budget visits : ℕ) (before after : View) (seats : List SeatFacts) (ends : List ShardEnd) (logs : List Log) : Type 0 where
  pub inner : StartsInner p
  pub begun : IsBefore p budget visits before
  pub view_is : after ≡ joined (with_less before p.shards) seats
  pub left : HaveLeft p seats ends logs
