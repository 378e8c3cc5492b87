use Rattle.std.proofs.Common.{◌≡◌, ◌+◌, ◌≤◌, ◌++◌, length, vec_capacity}
use Rattle.shard_threads.specs.Away.{ArePromised, behind}
use Rattle.shard_threads.specs.Players.{AllStay}
use Rattle.shard_threads.proofs.threads.start_all.Given as goal

-- blocks of the last players are in threads, and the others are still here
abbrev pub invariant-loop-started : goal.invariant-loop-started
invariant-loop-started g l = record {
  stay : AllStay g.P.Player.keeps l.floor.board.now l.floor.boxes.now l.fn.players.items (l.players.items ++ behind l.away.items);
  promised : ArePromised l.floor.board.now l.floor.boxes.now l.away.items;
  gone : length l.away.items + 1 ≡ l.started;
  room : vec_capacity l.fn.players ≤ vec_capacity l.players;
  away_room : l.threads ≤ vec_capacity l.away;
}
