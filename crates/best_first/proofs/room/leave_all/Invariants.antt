use Rattle.std.proofs.Common.{◌≡◌, ◌++◌, length}
use Rattle.std.specs.Vec.Iter.{into_iter_items}
use Rattle.best_first.specs.Rooms.{AreApart, IsRoomFor}
use Rattle.best_first.proofs.room.leave_all.Given as goal

-- the first shards were taken apart
abbrev pub invariant-loop-seated : goal.invariant-loop-seated
invariant-loop-seated g l = record {
  apart : AreApart l.yielded l.room;
  room : IsRoomFor (length l.fn.shards.items) (length l.yielded) l.room;
  rest : l.yielded ++ into_iter_items l.seated-iterator ≡ l.fn.shards.items;
  can_next : (goal.iterator-loop-seated g).can_next l.seated-iterator;
  is_finite : (goal.iterator-loop-seated g).is_finite l.seated-iterator;
}
