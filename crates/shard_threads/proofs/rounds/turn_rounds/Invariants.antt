use Rattle.std.proofs.Common.{◌≡◌, vec_capacity}
use Rattle.shard_threads.specs.Players.{AllStay}
use Rattle.shard_threads.proofs.rounds.turn_rounds.Given as goal

abbrev pub invariant-loop : goal.invariant-loop
invariant-loop g l = record {
  stay : AllStay g.P.Player.keeps l.floor.board.now l.floor.boxes.now l.fn.players.items l.players.items;
  between : (t : g.B.Between.Terms) → g.B.Between.keeps t l.fn.between → g.B.Between.keeps t l.between;
  room : vec_capacity l.players ≡ vec_capacity l.fn.players;
}
