use Rattle.best_turns.specs.Plays.{plays_by}
use Rattle.best_first.proofs.alone.go_on_alone.Given as goal
use Rattle.shard_threads.specs.Players.{AllStay}

abbrev pub invariant-loop : goal.invariant-loop
invariant-loop g l = AllStay (plays_by g.L.CostLaw.minimize g.L.CostLaw.operator g.K.Covers.prune g.K.Covers.minimize g.K.Covers.operator) l.floor.board.now l.floor.boxes.now l.fn.shards.items l.shards.items
