use Rattle.std.proofs.Common.{◌≡◌, ◌≤◌, ◌++◌, length, vec_capacity}
use Rattle.std.specs.Vec.Iter.{into_iter_items}
use Rattle.board_words.specs.Seats.{IsSeatOf}
use Rattle.shard_threads.specs.Seats.{AreSeated}
use Rattle.joined_seats.specs.Joined.{with_less}
use Rattle.shard_threads.proofs.seats.seat_all.Given as goal

-- the players so far
abbrev pub invariant-loop-player : goal.invariant-loop-player
invariant-loop-player g l = record {
  seat : IsSeatOf l.board l.seat;
  seated : AreSeated l.board l.fn.seat.view l.yielded l.all.items;
  left : l.seat.view ≡ with_less l.fn.seat.view (length l.yielded);
  rest : l.yielded ++ into_iter_items l.player-iterator ≡ l.fn.players.items;
  room : length l.fn.players.items ≤ vec_capacity l.all;
  can_next : (goal.iterator-loop-player g).can_next l.player-iterator;
  is_finite : (goal.iterator-loop-player g).is_finite l.player-iterator;
}
