use Rattle.std.proofs.Common.{refl, ◌∙◌}
use Rattle.shard_threads.proofs.Staying.{held_still, stay_same, stay_then}
use Rattle.shard_threads.proofs.rounds.turn_rounds.Goals as goal

pub loop-init : goal.loop-init
loop-init g c = record { stay = stay_same g.P.Player.keeps c.args.floor.now.board.now c.args.floor.now.boxes.now c.args.players.now.items; between = λ t h. h; room = refl }

pub turn_round-requires-after_bounds : goal.turn_round-requires-after_bounds
turn_round-requires-after_bounds g c κs within =
    held_still g.P.Player.keeps c.args.floor.now.board.now c.args.floor.now.boxes.now c.args.players.now.items c.loop.players.items c.requires.players c.loop.invariant.stay

pub step-requires : goal.step-requires
step-requires g c = let b = c.requires.between in record { held = (b.0, c.loop.invariant.between b.0 b.1) }

pub loop-preserved : goal.loop-preserved
loop-preserved g c = record {
  stay = stay_then g.P.Player.keeps c.args.floor.now.board.now c.args.floor.now.boxes.now c.args.players.now.items c.loop.players.items c.turn_round.new.players.items c.loop.invariant.stay c.turn_round.ensures.stay;
  between = λ t h. c.step.ensures t (c.loop.invariant.between t h);
  room = c.turn_round.ensures.room ∙ c.loop.invariant.room;
}
