use Rattle.std.proofs.Common.{◌≡◌, vec_capacity}
use Rattle.shard_threads.specs.Players.{AllStay}
use Rattle.shard_threads.proofs.rounds.turn_round.Given as goal

abbrev pub invariant-loop-place : goal.invariant-loop-place
invariant-loop-place g l = record {
  stay : AllStay g.P.Player.keeps l.floor.board.now l.floor.boxes.now l.fn.players.items l.players.items;
  room : vec_capacity l.players ≡ vec_capacity l.fn.players;
}
