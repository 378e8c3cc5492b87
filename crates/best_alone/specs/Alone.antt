-- The one shard of a search, which takes what it hands out, and its seat.
use Rattle.std.specs.Prelude.{◌≡◌, ℕ, ◌<◌, ◌≤◌, ◌^◌, ◌⊎◌, length}
use Rattle.best_ledger.specs.Histories.{came_from, to, visits_in}
use Rattle.best_ledger.specs.Records.{Done, IsPrefix}
use Rattle.best_ledger.specs.declared.records.BestRecord.{BestRecord}
use Rattle.best_seats.specs.Seats.{Sits, Sat}
use Rattle.best_seats.specs.declared.ended.BestEnded.{BestEnded}
use Rattle.best_shard.specs.Stands.{Stands, EndsAs}
use Rattle.best_shard.specs.declared.shard.BestShard.{BestShard}
use Rattle.board_words.specs.Seats.{BoardFacts, SeatFacts, IsSeatOf}
use Rattle.board_words.specs.declared.seat.View.{View}
use Rattle.pass_ledger.specs.Passes.{Pass}

-- The shard is the only one of its search. It goes on: it stands for a record that received all that it posted, and its seat knows
-- what the record says. The board's limit is small.
pub record Acts {A B : Type 0} (p : Pass) (board : BoardFacts) (budget : ℕ) (s : BestShard A B) (seat : SeatFacts) : Type 0 where
  pub shard_record : BestRecord
  pub stands : Stands p s shard_record
  pub alone : p.shards ≡ 1
  pub arrived : came_from 0 shard_record.history ≡ to shard_record.posted 0
  pub on_board : IsSeatOf board seat
  pub small : board.limit ≤ 2 ^ 40
  pub sits : Sits p budget seat.view shard_record

-- The search closed: its record is done, and received all that it posted. The seat drew a number for each visit, and none was late.
pub record HasClosed (v : View) (r : BestRecord) : Type 0 where
  pub done : Done r
  pub arrived : came_from 0 r.history ≡ to r.posted 0
  pub late : v.late ≡ 0
  pub drawn : v.drawn ≡ length (visits_in r.history)

-- The shard has ended, and hands back the parts of a record, whose letters that came begin those that it posted. Its seat knows what
-- the record says. It raised a halt, or the search closed.
pub record Leaves {A B : Type 0} (p : Pass) (board : BoardFacts) (end : BestEnded) (s : BestShard A B) (seat : SeatFacts) : Type 0 where
  pub shard_record : BestRecord
  pub alone : p.shards ≡ 1
  pub first : s.me ≡ 0
  pub ends : EndsAs p s shard_record
  pub begun : IsPrefix (came_from 0 shard_record.history) (to shard_record.posted 0)
  pub on_board : IsSeatOf board seat
  pub sat : Sat p end seat.view shard_record
  pub fate : (0 < seat.view.raised) ⊎ HasClosed seat.view shard_record
