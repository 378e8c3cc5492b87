-- A search from its start to its end.
use Rattle.std.proofs.Common.{◌≡◌, ℕ, Bool, List, ap, ◌∙◌}
use Rattle.best_first.specs.Crews.{seats_of}
use Rattle.best_over.specs.Lefts.{HaveLeft, IsOver}
use Rattle.best_first.specs.Stages.{IsBegun}
use Rattle.best_first.specs.declared.room.Room.{Room}
use Rattle.best_first.proofs.Playing.{keep_still}
use Rattle.best_ledger.specs.Searches.{BestSearch, pass_of}
use Rattle.best_shard.specs.declared.shard.BestShardEnd.{BestShardEnd}
use Rattle.best_turns.specs.Plays.{plays_by}
use Rattle.best_turns.specs.declared.turner.BestTurner.{BestTurner}
use Rattle.best_turns.specs.declared.work.BestBoxes.{BestBoxes}
use Rattle.board_words.specs.Seats.{BoardFacts, SeatFacts}
use Rattle.board_words.specs.declared.seat.View.{View}
use Rattle.dp_model.specs.declared.parts.JoinOp.{JoinOp}
use Rattle.path_log.specs.Paths.{Log}
use Rattle.pass_ledger.specs.Passes.{Pass}
use Rattle.shard_core.specs.Stands.{Suited}
use Rattle.shard_threads.specs.Players.{AllStay}
use Rattle.joined_seats.specs.Joined.{joined}
use Rattle.shard_threads.specs.declared.seated.Seated.{Seated}

module _ {A B : Type 0} (p : Pass) (board : BoardFacts) (budget visits : ℕ) (was : View) (seat : SeatFacts) (shards : List (Seated (BestTurner A B))) (boxes : BestBoxes) (room : Room) (b : IsBegun p board budget was seat visits shards boxes.boxes.items room) where
  pub turned : (least : Bool) (join : JoinOp) (prune fewest : Bool) (other : JoinOp) → Suited p least join prune fewest other → (after : List (Seated (BestTurner A B))) → AllStay (plays_by least join prune fewest other) board boxes shards after → IsBegun p board budget was seat visits after boxes.boxes.items room
  turned least join prune fewest other suited after stay = record {
    inner = b.inner;
    before = b.before;
    on_board = b.on_board;
    split = b.split;
    keep = keep_still p least join prune fewest other suited board boxes shards after b.keep stay;
    room_for = b.room_for;
  }

module _ {A B : Type 0} (b : BestSearch) (board : BoardFacts) (budget visits : ℕ) (was : View) (seat : SeatFacts) (shards : List (Seated (BestTurner A B))) (boxes : BestBoxes) (room : Room) (begun : IsBegun (pass_of b) board budget was seat visits shards boxes.boxes.items room) where
  pub is_over : (gathered : View) (ends : List BestShardEnd) (logs : List Log) (lost : Bool) → gathered ≡ joined seat.view (seats_of shards) → HaveLeft (pass_of b) (seats_of shards) ends logs lost → IsOver b budget visits was gathered (seats_of shards) ends logs lost
  is_over gathered ends logs lost view left = record {
    inner = begun.inner;
    begun = begun.before;
    view_is = view ∙ ap (λ (v : View). joined v (seats_of shards)) begun.split;
    left = left;
  }
