use Rattle.shard_threads.proofs.Staying.{held_still, stay_then}
use Rattle.shard_threads.proofs.threads.turn_in_threads.Goals as goal

pub turn_all-requires-clause-players : goal.turn_all-requires-clause-players
turn_all-requires-clause-players g c κs within =
    let first = c.turn_in_scope-players in
    held_still g.P.Player.keeps c.args.floor.now.board.now c.args.floor.now.boxes.now c.args.players.items first.result.0.items c.requires.players first.ensures.stay

pub turn_all-requires-clause-between : goal.turn_all-requires-clause-between
turn_all-requires-clause-between g c κs within = let b = c.requires.between in (b.0, c.turn_in_scope-players.ensures.between b.0 b.1)

pub returns-clause-stay : goal.returns-clause-stay
returns-clause-stay g c =
    let first = c.turn_in_scope-players in
    stay_then g.P.Player.keeps c.args.floor.now.board.now c.args.floor.now.boxes.now c.args.players.items first.result.0.items c.turn_all.new.players.items first.ensures.stay c.turn_all.ensures.stay
