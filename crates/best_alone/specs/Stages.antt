-- A search by one shard that has begun, and one whose shard has ended.
use Rattle.std.specs.Prelude.{ℕ, [], ◌∷◌, false}
use Rattle.best_over.specs.Lefts.{HaveLeft}
use Rattle.board_words.specs.Seats.{BoardFacts, SeatFacts, IsSeatOf}
use Rattle.board_words.specs.declared.seat.View.{View}
use Rattle.pass_ledger.specs.Passes.{Pass}
use Rattle.best_alone.specs.Alone.{Acts}
use Rattle.best_alone.specs.Parts.{IsRoom, IsSplit}
use Rattle.best_alone.specs.declared.search.Begun.{Begun}
use Rattle.best_alone.specs.declared.search.Played.{Played}

-- The shard goes on at its seat, which was split off the whole one, and there is room for what it leaves.
pub record IsBegun {A B : Type 0} (p : Pass) (board : BoardFacts) (budget : ℕ) (was : View) (seat : SeatFacts) (begun : Begun A B) : Type 0 where
  pub split : IsSplit p board budget was seat begun.before
  pub acts : Acts p board budget begun.made.shard begun.own
  pub room : IsRoom begun.made.room

-- The shard left what a record says, and its seat knows it. No letter was lost.
pub record IsPlayed (p : Pass) (board : BoardFacts) (budget : ℕ) (was : View) (seat : SeatFacts) (played : Played) : Type 0 where
  pub split : IsSplit p board budget was seat played.before
  pub on_board : IsSeatOf board played.own
  pub left : HaveLeft p (played.own ∷ []) played.room.ends.items played.room.logs.items false
