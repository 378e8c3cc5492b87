-- What a search by one shard is made of: a seat that was split off, and room for what the shard leaves.
use Rattle.std.specs.Prelude.{◌≡◌, ℕ, ◌<◌, [], vec_capacity}
use Rattle.best_over.specs.Lefts.{IsBefore}
use Rattle.board_words.specs.Seats.{BoardFacts, SeatFacts, IsSeatOf}
use Rattle.board_words.specs.Steps.{after_split}
use Rattle.board_words.specs.declared.seat.View.{View}
use Rattle.pass_ledger.specs.Passes.{Pass, StartsInner}
use Rattle.best_alone.specs.declared.room.Room.{Room}

-- there is room for what one shard leaves
pub record IsRoom (room : Room) : Type 0 where
  pub no_ends : room.ends.items ≡ []
  pub no_logs : room.logs.items ≡ []
  pub ends_room : 0 < vec_capacity room.ends
  pub logs_room : 0 < vec_capacity room.logs

-- The seat of the one shard was split off the whole seat, of which so many draws were below the budget.
pub record IsSplit (p : Pass) (board : BoardFacts) (budget : ℕ) (was : View) (seat : SeatFacts) (visits : ℕ) : Type 0 where
  pub alone : p.shards ≡ 1
  pub inner : StartsInner p
  pub before : IsBefore p budget visits was
  pub on_board : IsSeatOf board seat
  pub split : seat.view ≡ after_split was
