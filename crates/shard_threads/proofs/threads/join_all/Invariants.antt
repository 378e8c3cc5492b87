use Rattle.std.proofs.Common.{◌≤◌, ◌++◌, length, vec_capacity}
use Rattle.shard_threads.specs.Away.{ArePromised, behind}
use Rattle.shard_threads.specs.Players.{AllStay}
use Rattle.shard_threads.proofs.threads.join_all.Given as goal

-- the threads of the last blocks are left to join
abbrev pub invariant-loop-handle : goal.invariant-loop-handle
invariant-loop-handle g l = record {
  stay : AllStay g.P.Player.keeps l.floor.board.now l.floor.boxes.now (l.fn.players.items ++ behind l.fn.away.items) (l.players.items ++ behind l.away.items);
  promised : ArePromised l.floor.board.now l.floor.boxes.now l.away.items;
  room : vec_capacity l.fn.players ≤ vec_capacity l.players;
}

abbrev pub decreases-loop-handle : goal.decreases-loop-handle
decreases-loop-handle g l = length l.away.items
