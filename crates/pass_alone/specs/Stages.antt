-- A pass of one shard that has begun, and one whose shard has ended.
use Rattle.std.specs.Prelude.{ℕ}
use Rattle.board_words.specs.Seats.{BoardFacts, SeatFacts, IsSeatOf}
use Rattle.board_words.specs.declared.seat.View.{View}
use Rattle.pass_ledger.specs.Passes.{Pass}
use Rattle.pass_ledger.specs.declared.records.ShardRecord.{ShardRecord}
use Rattle.pass_alone.specs.Alone.{Rests}
use Rattle.pass_alone.specs.Parts.{HasLeft, IsRoom, IsSplit}
use Rattle.pass_alone.specs.declared.pass.Begun.{Begun}
use Rattle.pass_alone.specs.declared.pass.Played.{Played}

-- The shard rests at its seat, which was split off the whole one, and there is room for what it leaves.
pub record IsBegun {A B : Type 0} (p : Pass) (board : BoardFacts) (budget : ℕ) (was : View) (seat : SeatFacts) (begun : Begun A B) : Type 0 where
  pub split : IsSplit p board budget was seat begun.before
  pub rests : Rests p board budget begun.made.shard begun.own
  pub room : IsRoom begun.made.room

-- The shard left what its record says, and its seat knows it.
pub record IsPlayed (p : Pass) (board : BoardFacts) (budget : ℕ) (was : View) (seat : SeatFacts) (played : Played) : Type 0 where
  pub split : IsSplit p board budget was seat played.before
  pub shard_record : ShardRecord
  pub on_board : IsSeatOf board played.own
  pub left : HasLeft p shard_record played.own played.room
