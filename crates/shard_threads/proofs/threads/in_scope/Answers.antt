use Rattle.std.proofs.Common.{◌++◌, refl, arith}
use Rattle.shard_threads.specs.Away.{behind}
use Rattle.shard_threads.proofs.Staying.{held_front, held_still, stay_both, stay_long, stay_same, stay_then}
use Rattle.shard_threads.proofs.threads.in_scope.Goals as goal

pub returns-in_default-clause-stay : goal.returns-in_default-clause-stay
returns-in_default-clause-stay g c = stay_same g.P.Player.keeps c.args.floor.now.board.now c.args.floor.now.boxes.now c.args.players.items

pub turn_all-requires-clause-players : goal.turn_all-requires-clause-players
turn_all-requires-clause-players g c κs within =
    let keeps = g.P.Player.keeps in
    let board = c.args.floor.now.board.now in
    let boxes = c.args.floor.now.boxes.now in
    let players = c.start_all.new.players.items in
    let rest = behind c.start_all.new.away.items in
    held_front keeps board boxes (players ++ rest) players rest refl (held_still keeps board boxes c.args.players.items (players ++ rest) c.requires.players c.start_all.ensures.stay)

pub join_all-requires-clause-room : goal.join_all-requires-clause-room
join_all-requires-clause-room g c =
    let keeps = g.P.Player.keeps in
    let board = c.args.floor.now.board.now in
    let boxes = c.args.floor.now.boxes.now in
    let players = c.start_all.new.players.items in
    let turned = c.turn_all.new.players.items in
    let rest = behind c.start_all.new.away.items in
    let a = stay_long keeps board boxes c.args.players.items (players ++ rest) c.start_all.ensures.stay in
    let b = stay_long keeps board boxes (players ++ rest) (turned ++ rest) (stay_both keeps board boxes players turned rest rest c.turn_all.ensures.stay (stay_same keeps board boxes rest)) in
    let v = c.args.players.ok.0 in
    let w = c.args.players.ok.1 in
    let x = c.start_all.ensures.room in
    let y = c.turn_all.ensures.room in
    omega (arith, a, b, v, w, x, y)

pub returns-clause-stay : goal.returns-clause-stay
returns-clause-stay g c =
    let keeps = g.P.Player.keeps in
    let board = c.args.floor.now.board.now in
    let boxes = c.args.floor.now.boxes.now in
    let was = c.args.players.items in
    let players = c.start_all.new.players.items in
    let turned = c.turn_all.new.players.items in
    let rest = behind c.start_all.new.away.items in
    let all = stay_both keeps board boxes players turned rest rest c.turn_all.ensures.stay (stay_same keeps board boxes rest) in
    stay_then keeps board boxes was (turned ++ rest) c.join_all.new.players.items (stay_then keeps board boxes was (players ++ rest) (turned ++ rest) c.start_all.ensures.stay all) c.join_all.ensures
