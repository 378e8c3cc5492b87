use Rattle.std.proofs.Common.{◌≡◌, true, length}
use Rattle.best_first.specs.Rooms.{IsAllTaken}
use Rattle.best_first.proofs.Leaving.{HoldsFrom}
use Rattle.best_first.proofs.Places.{Begins}
use Rattle.best_first.proofs.room.settle_all.Given as goal
use Rattle.best_turns.specs.Envelopes.{sender_of}
use Rattle.shard_mail.specs.Ends.{IsBegunOf}

-- the first mailboxes are left, and the others were settled
abbrev pub invariant-loop-mailbox : goal.invariant-loop-mailbox
invariant-loop-mailbox g l = record {
  boxes : Begins l.boxes.items l.fn.boxes.items;
  takers : Begins l.takers.items l.fn.takers.items;
  posters : Begins l.posters.items l.fn.posters.items;
  takers_long : length l.takers.items ≡ length l.boxes.items;
  posters_long : length l.posters.items ≡ length l.boxes.items;
  begun : HoldsFrom (IsBegunOf sender_of) (length l.boxes.items) l.fn.takers.items l.fn.posters.items;
  all : l.all_taken ≡ true → HoldsFrom IsAllTaken (length l.boxes.items) l.fn.takers.items l.fn.posters.items;
}

abbrev pub decreases-loop-mailbox : goal.decreases-loop-mailbox
decreases-loop-mailbox g l = length l.boxes.items
