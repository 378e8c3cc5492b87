use denote.Exit.{no}
use denote.Param.Send.{param_send, arg_send}
use Rattle.best_turns.specs.Plays.{plays_by}
use Rattle.best_first.proofs.Crosses.{of-turner}
use Rattle.best_first.proofs.search.turn_shards.Lts as lts
use Rattle.best_first.proofs.search.turn_shards.Goals as goal
use Rattle.shard_threads.proofs.Staying.{held_still, stay_then}

pub turn_in_threads-shards-requires-clause-players : goal.turn_in_threads-shards-requires-clause-players
turn_in_threads-shards-requires-clause-players g c κs within = c.requires

pub go_on_alone-resting-requires-after_bounds : goal.go_on_alone-resting-requires-after_bounds
go_on_alone-resting-requires-after_bounds g c κs within =
    held_still (plays_by g.L.CostLaw.minimize g.L.CostLaw.operator g.K.Covers.prune g.K.Covers.minimize g.K.Covers.operator) c.args.floor.now.board.now c.args.floor.now.boxes.now c.args.shards.items c.turn_in_threads-shards.result.0.items c.requires c.turn_in_threads-shards.ensures.stay

pub returns-clause-stay : goal.returns-clause-stay
returns-clause-stay g c =
    stay_then (plays_by g.L.CostLaw.minimize g.L.CostLaw.operator g.K.Covers.prune g.K.Covers.minimize g.K.Covers.operator) c.args.floor.now.board.now c.args.floor.now.boxes.now c.args.shards.items c.turn_in_threads-shards.result.0.items c.go_on_alone-resting.new.shards.items
    c.turn_in_threads-shards.ensures.stay c.go_on_alone-resting.ensures.stay

-- a shard may be sent
pub turn_in_threads-shards-requires-send-P : goal.turn_in_threads-shards-requires-send-P
turn_in_threads-shards-requires-send-P g c κs within = param_send 0 (lts.arg-0-0 g.row.L g.row.K g.row.R g.row.G g.L.laws g.K.laws g.R.laws g.G.laws g.L.CostLaw g.L.CostLaw-dict g.K.Covers g.K.Covers-dict g.R.Threads g.R.Threads-dict g.R.Wait g.R.Wait-dict g.G.Gate g.G.Gate-dict κs)
    (arg_send _ no _ (of-turner _ _ _ g.L.CostLaw g.K.Covers c.type_bounds.send-L c.type_bounds.send-K))
