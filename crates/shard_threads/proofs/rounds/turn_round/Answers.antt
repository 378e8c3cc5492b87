use Rattle.std.proofs.Common.{◌<◌, length, slice_index_or, refl, ap, ◌∙◌, arith}
use Rattle.std.proofs.lemmas.Option.{slice_get_read}
use Rattle.shard_threads.proofs.Staying.{held_still, stay_same, stay_set, stay_then, stay_to}
use Rattle.shard_threads.proofs.rounds.turn_round.Goals as goal
use Rattle.shard_threads.proofs.rounds.turn_round.Goals.{then-place-len, else-place-len}

pub loop-place-init : goal.loop-place-init
loop-place-init g c = record { stay = stay_same g.P.Player.keeps c.args.floor.now.board.now c.args.floor.now.boxes.now c.args.players.now.items; room = refl }

pub turn_one-requires-after_bounds : goal.turn_one-requires-after_bounds
turn_one-requires-after_bounds g c κs within =
    let players = c.loop-place.players.items in
    let place = slice_index_or c.args.order.now c.loop-place.place-index 0 in
    let inside : place < length players = (let lt = c.if-place-len.true in let v = c.loop-place.players.ok.0 in omega (arith, lt, v)) in
    held_still g.P.Player.keeps c.args.floor.now.board.now c.args.floor.now.boxes.now c.args.players.now.items players c.requires c.loop-place.invariant.stay place c.index_mut.result.now (slice_get_read players (length players) place c.index_mut.result.now refl inside c.index_mut.ensures.value)

pub loop-place-preserved : goal.loop-place-preserved
loop-place-preserved g c =
    let keeps = g.P.Player.keeps in
    let board = c.args.floor.now.board.now in
    let boxes = c.args.floor.now.boxes.now in
    let was = c.args.players.now.items in
    let players = c.loop-place.players.items in
    let place = slice_index_or c.args.order.now c.loop-place.place-index 0 in
    elim c.if-place-len.branch [
      | then-place-len w ↦ (
          let inside : place < length players = (let lt = w.if-place-len in let v = c.loop-place.players.ok.0 in omega (arith, lt, v)) in
          let turned = stay_set keeps board boxes players place w.index_mut.result.now w.turn_one.new.seated (slice_get_read players (length players) place w.index_mut.result.now refl inside w.index_mut.ensures.value) w.turn_one.ensures in
          record {
            stay = stay_then keeps board boxes was players c.if-place-len.players.items c.loop-place.invariant.stay (stay_to keeps board boxes players _ c.if-place-len.players.items (ap (λ v. v.items) w.players-is) turned);
            room = ap (λ v. v.cap) w.players-is ∙ c.loop-place.invariant.room;
          })
      | else-place-len w ↦ record {
        stay = stay_to keeps board boxes was players c.if-place-len.players.items (ap (λ v. v.items) w.players-is) c.loop-place.invariant.stay;
        room = ap (λ v. v.cap) w.players-is ∙ c.loop-place.invariant.room;
      }
    ]
