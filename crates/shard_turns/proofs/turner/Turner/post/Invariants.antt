-- What is asked of a turn holds before each letter, and a shard that goes on goes on after those that were posted.
use Rattle.std.proofs.Common.{◌≡◌}
use Rattle.pass_ledger.specs.Passes.{Pass}
use Rattle.shard_core.specs.Stands.{Suited}
use Rattle.shard_turns.specs.Calls.{queue_of}
use Rattle.shard_turns.specs.Turners.{Acts}
use Rattle.shard_turns.specs.Works.{HasPosted}
use Rattle.shard_turns.proofs.turner.Turner.post.Given as goal

abbrev pub invariant-loop : goal.invariant-loop
invariant-loop g l = record {
  asked : (p : Pass) × Suited p g.L.CostLaw.minimize g.L.CostLaw.operator g.K.Covers.prune g.K.Covers.minimize g.K.Covers.operator × Acts p l.board l.boxes.items l.self l.seat;
  goes_on : (p : Pass) → Suited p g.L.CostLaw.minimize g.L.CostLaw.operator g.K.Covers.prune g.K.Covers.minimize g.K.Covers.operator → (a : Acts p l.board l.boxes.items l.initial.self l.initial.seat)
      → (b : Acts p l.board l.boxes.items l.self l.seat) × HasPosted a.shard_record b.shard_record;
  same : l.self.ended ≡ l.initial.self.ended;
  me : l.self.shard.me ≡ l.initial.self.shard.me;
  queue : queue_of l.self.calling ≡ queue_of l.initial.self.calling;
}
