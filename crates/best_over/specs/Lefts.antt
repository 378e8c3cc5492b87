-- What the shards of a search left when it had ended, and what was known of the whole seat before the search.
use Rattle.std.specs.Prelude.{◌≡◌, ℕ, ◌+◌, ◌-◌, ◌<◌, ◌≤◌, ◌⊎◌, min, Bool, false, List, length, slice_get, Some}
use Rattle.best_ledger.specs.Histories.{visits_in}
use Rattle.best_ledger.specs.Laws.{AllDone}
use Rattle.best_ledger.specs.Records.{record_of, Together, HasArrived}
use Rattle.best_ledger.specs.Searches.{BestSearch, pass_of}
use Rattle.best_ledger.specs.declared.records.BestRecord.{BestRecord}
use Rattle.best_shard.specs.declared.shard.BestShardEnd.{BestShardEnd}
use Rattle.best_seats.specs.Seats.{Sat}
use Rattle.best_seats.specs.declared.ended.BestEnded.{BestEnded}
use Rattle.best_ends.specs.Left.{AreEnds}
use Rattle.board_words.specs.Rules.{no_word, IsWhole}
use Rattle.board_words.specs.Seats.{SeatFacts}
use Rattle.board_words.specs.Steps.{best_known}
use Rattle.board_words.specs.declared.seat.View.{View}
use Rattle.path_log.specs.Paths.{Log}
use Rattle.pass_ledger.specs.Passes.{Pass, StartsInner}
use Rattle.joined_seats.specs.Joined.{joined, with_less}

-- a shard raised a halt, or met one
abbrev pub HaveHalted : List SeatFacts → Type 0
HaveHalted seats = (i : ℕ) × (s : SeatFacts) × (slice_get seats i ≡ Some s) × (0 < s.view.raised + s.view.met)

-- All records are done, and all letters have arrived. Each shard drew a number for each of its visits, and none was late.
pub record HaveClosed (p : Pass) (seats : List SeatFacts) (records : List BestRecord) : Type 0 where
  pub done : AllDone p records
  pub arrived : HasArrived p records
  pub late : (i : ℕ) (s : SeatFacts) → slice_get seats i ≡ Some s → s.view.late ≡ 0
  pub drawn : (i : ℕ) (s : SeatFacts) → slice_get seats i ≡ Some s → s.view.drawn ≡ length (visits_in (record_of records i).history)

-- There is a record of each shard, and its seat knows what the record says. Where no letter was lost, the search closed, or it was
-- halted.
pub record HaveLeft (p : Pass) (seats : List SeatFacts) (ends : List BestShardEnd) (logs : List Log) (lost : Bool) : Type 0 where
  pub records : List BestRecord
  pub long : length records ≡ p.shards
  pub seats_long : length seats ≡ p.shards
  pub together : Together p records
  pub handed : AreEnds p records ends logs
  pub sat : (i : ℕ) (s : SeatFacts) → slice_get seats i ≡ Some s → (end : BestEnded) × Sat p end s.view (record_of records i)
  pub fate : lost ≡ false → HaveHalted seats ⊎ HaveClosed p seats records

-- The seat is whole, and no halt was raised. So many of the numbers that it drew are below the budget, and its other draws were
-- late.
pub record IsBefore (p : Pass) (budget visits : ℕ) (v : View) : Type 0 where
  pub whole : IsWhole v
  pub few_shards : p.shards ≤ 64
  pub no_halt : v.raised ≡ 0
  pub limit : v.limit ≡ budget
  pub visits_are : visits ≡ min v.drawn budget
  pub late : v.late ≡ v.drawn - v.limit
  pub best_fits : best_known v ≤ no_word

-- The search is over: the shards left this, and their seats were joined to what had stayed of the whole seat.
pub record IsOver (b : BestSearch) (budget visits : ℕ) (before after : View) (seats : List SeatFacts) (ends : List BestShardEnd) (logs : List Log) (lost : Bool) : Type 0 where
  pub inner : StartsInner (pass_of b)
  pub begun : IsBefore (pass_of b) budget visits before
  pub view_is : after ≡ joined (with_less before b.shards) seats
  pub left : HaveLeft (pass_of b) seats ends logs lost
