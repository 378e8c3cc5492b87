-- A search whose shards have their seats.
use Rattle.std.specs.Prelude.{◌≡◌, ℕ, List}
use Rattle.board_words.specs.Seats.{BoardFacts, SeatFacts, IsSeatOf}
use Rattle.board_words.specs.declared.seat.View.{View}
use Rattle.pass_ledger.specs.Passes.{Pass, StartsInner}
use Rattle.shard_mail.specs.Ends.{MailboxFacts}
use Rattle.joined_seats.specs.Joined.{with_less}
use Rattle.shard_threads.specs.declared.seated.Seated.{Seated}
use Rattle.best_turns.specs.declared.turner.BestTurner.{BestTurner}
use Rattle.best_first.specs.Crews.{KeepAll}
use Rattle.best_first.specs.Rooms.{IsRoomFor}
use Rattle.best_over.specs.Lefts.{IsBefore}
use Rattle.best_first.specs.declared.room.Room.{Room}

-- The shards go on at their seats, which were split off the whole seat, or have ended. There is room for what they leave.
pub record IsBegun {A B : Type 0} (p : Pass) (board : BoardFacts) (budget : ℕ) (was : View) (seat : SeatFacts) (visits : ℕ) (shards : List (Seated (BestTurner A B))) (boxes : List MailboxFacts) (room : Room) : Type 0 where
  pub inner : StartsInner p
  pub before : IsBefore p budget visits was
  pub on_board : IsSeatOf board seat
  pub split : seat.view ≡ with_less was p.shards
  pub keep : KeepAll p board boxes shards
  pub room_for : IsRoomFor p.shards 0 room
