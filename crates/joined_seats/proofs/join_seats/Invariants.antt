use Rattle.std.proofs.Common.{◌≡◌, ℕ, slice_get, Some}
use Rattle.std.specs.Vec.Iter.{into_iter_items}
use Rattle.board_words.specs.Seats.{SeatFacts, IsSeatOf}
use Rattle.joined_seats.specs.Joined.{joined}
use Rattle.joined_seats.proofs.join_seats.Given as goal

-- with those that are left it becomes what it is to be
abbrev pub invariant-loop-other : goal.invariant-loop-other
invariant-loop-other l = record {
  seat : IsSeatOf l.board l.seat;
  view : joined l.seat.view (into_iter_items l.other-iterator) ≡ joined l.fn.seat.view l.fn.seats.items;
  rest : (i : ℕ) (s : SeatFacts) → slice_get (into_iter_items l.other-iterator) i ≡ Some s → IsSeatOf l.board s;
  can_next : (goal.iterator-loop-other).can_next l.other-iterator;
  is_finite : (goal.iterator-loop-other).is_finite l.other-iterator;
}
