use Rattle.best_turns.specs.Plays.{plays_by}
use Rattle.best_first.proofs.alone.go_on_alone.Goals as goal
use Rattle.shard_threads.proofs.Staying.{held_still, stay_same, stay_then}

pub loop-init : goal.loop-init
loop-init g c = stay_same (plays_by g.L.CostLaw.minimize g.L.CostLaw.operator g.K.Covers.prune g.K.Covers.minimize g.K.Covers.operator) c.args.floor.now.board.now c.args.floor.now.boxes.now c.args.shards.now.items

pub turn_each-requires-after_bounds : goal.turn_each-requires-after_bounds
turn_each-requires-after_bounds g c κs within = held_still (plays_by g.L.CostLaw.minimize g.L.CostLaw.operator g.K.Covers.prune g.K.Covers.minimize g.K.Covers.operator) c.args.floor.now.board.now c.args.floor.now.boxes.now c.args.shards.now.items c.loop.shards.items c.requires c.loop.invariant

pub loop-preserved : goal.loop-preserved
loop-preserved g c =
    stay_then (plays_by g.L.CostLaw.minimize g.L.CostLaw.operator g.K.Covers.prune g.K.Covers.minimize g.K.Covers.operator) c.args.floor.now.board.now c.args.floor.now.boxes.now c.args.shards.now.items c.loop.shards.items c.turn_each.new.shards.items c.loop.invariant c.turn_each.ensures

pub returns-then-are_resting-clause-stay : goal.returns-then-are_resting-clause-stay
returns-then-are_resting-clause-stay g c =
    stay_then (plays_by g.L.CostLaw.minimize g.L.CostLaw.operator g.K.Covers.prune g.K.Covers.minimize g.K.Covers.operator) c.args.floor.now.board.now c.args.floor.now.boxes.now c.args.shards.now.items c.loop.shards.items c.turn_each.new.shards.items c.loop.invariant c.turn_each.ensures
