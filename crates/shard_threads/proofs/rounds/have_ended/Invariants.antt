use Rattle.std.proofs.Common.{◌≡◌, length}
use Rattle.shard_threads.proofs.Staying.{HaveEndedBelow}
use Rattle.shard_threads.proofs.rounds.have_ended.Given as goal

abbrev pub invariant-loop-i : goal.invariant-loop-i
invariant-loop-i g l = record {
  ended : HaveEndedBelow g.P.Player.has_ended l.i l.players.items;
  long : l.i-end ≡ length l.players.items;
}
