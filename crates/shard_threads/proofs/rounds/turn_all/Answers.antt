use Rattle.std.proofs.Common.{refl, ◌∙◌}
use Rattle.shard_threads.proofs.Staying.{held_still, stay_same, stay_then}
use Rattle.shard_threads.proofs.rounds.turn_all.Goals as goal

pub loop-init : goal.loop-init
loop-init g c = record { stay = stay_same g.P.Player.keeps c.args.floor.now.board.now c.args.floor.now.boxes.now c.args.players.now.items; between = λ t h. h; room = refl }

pub turn_rounds-requires-clause-players : goal.turn_rounds-requires-clause-players
turn_rounds-requires-clause-players g c κs within =
    held_still g.P.Player.keeps c.args.floor.now.board.now c.args.floor.now.boxes.now c.args.players.now.items c.loop.players.items c.requires.players c.loop.invariant.stay

pub turn_rounds-requires-clause-between : goal.turn_rounds-requires-clause-between
turn_rounds-requires-clause-between g c κs within = let b = c.requires.between in (b.0, c.loop.invariant.between b.0 b.1)

pub loop-preserved : goal.loop-preserved
loop-preserved g c = record {
  stay = stay_then g.P.Player.keeps c.args.floor.now.board.now c.args.floor.now.boxes.now c.args.players.now.items c.loop.players.items c.turn_rounds.new.players.items c.loop.invariant.stay c.turn_rounds.ensures.stay;
  between = λ t h. c.turn_rounds.ensures.between t (c.loop.invariant.between t h);
  room = c.turn_rounds.ensures.room ∙ c.loop.invariant.room;
}
