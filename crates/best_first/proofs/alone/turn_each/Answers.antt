use Rattle.std.proofs.Common.{◌<◌, length, sym, ◌∙◌, arith}
use Rattle.std.proofs.lemmas.List.{length-set}
use Rattle.best_turns.specs.Plays.{plays_by}
use Rattle.best_first.proofs.Resting.{read_at}
use Rattle.best_first.proofs.alone.turn_each.Goals as goal
use Rattle.shard_threads.proofs.Staying.{held_still, stay_same, stay_set, stay_then}

pub loop-place-init : goal.loop-place-init
loop-place-init g c = record {
  stay = stay_same (plays_by g.L.CostLaw.minimize g.L.CostLaw.operator g.K.Covers.prune g.K.Covers.minimize g.K.Covers.operator) c.args.floor.now.board.now c.args.floor.now.boxes.now c.args.shards.now.items;
  long = c.len-place-end.ensures ∙ c.args.shards.now.ok.0;
}

pub turn_again-requires-after_bounds : goal.turn_again-requires-after_bounds
turn_again-requires-after_bounds g c κs within =
    let shards = c.loop-place.shards.items in
    let inside : c.loop-place.place < length shards = (let a = c.loop-place-test.true in let b = c.loop-place.invariant.long in omega (arith, a, b)) in
    held_still (plays_by g.L.CostLaw.minimize g.L.CostLaw.operator g.K.Covers.prune g.K.Covers.minimize g.K.Covers.operator) c.args.floor.now.board.now c.args.floor.now.boxes.now c.args.shards.now.items shards c.requires c.loop-place.invariant.stay c.loop-place.place c.index_mut.result.now
    (read_at shards c.loop-place.place c.index_mut.result.now inside c.index_mut.ensures.value)

pub loop-place-preserved : goal.loop-place-preserved
loop-place-preserved g c =
    let shards = c.loop-place.shards.items in
    let inside : c.loop-place.place < length shards = (let a = c.loop-place-test.true in let b = c.loop-place.invariant.long in omega (arith, a, b)) in
    let turned = stay_set (plays_by g.L.CostLaw.minimize g.L.CostLaw.operator g.K.Covers.prune g.K.Covers.minimize g.K.Covers.operator) c.args.floor.now.board.now c.args.floor.now.boxes.now shards c.loop-place.place c.index_mut.result.now c.turn_again.new.seated
    (read_at shards c.loop-place.place c.index_mut.result.now inside c.index_mut.ensures.value) c.turn_again.ensures in
    record {
      stay = stay_then (plays_by g.L.CostLaw.minimize g.L.CostLaw.operator g.K.Covers.prune g.K.Covers.minimize g.K.Covers.operator) c.args.floor.now.board.now c.args.floor.now.boxes.now c.args.shards.now.items shards _ c.loop-place.invariant.stay turned;
      long = c.loop-place.invariant.long ∙ sym (length-set shards c.loop-place.place c.turn_again.new.seated);
    }
