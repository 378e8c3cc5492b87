use Rattle.std.proofs.Common.{◌<◌, length, arith}
use Rattle.best_first.specs.Alone.{IsResting}
use Rattle.best_first.proofs.Resting.{below_all, below_next}
use Rattle.best_first.proofs.alone.are_resting.Goals as goal

pub loop-place-preserved : goal.loop-place-preserved
loop-place-preserved g c =
    let shards = c.args.shards.now.items in
    let inside : c.loop-place.place < length shards = (let a = c.loop-place-test.true in let b = c.loop-place.invariant.long in omega (arith, a, b)) in
    record {
      rest = below_next IsResting c.loop-place.place shards c.index.result.now c.loop-place.invariant.rest inside c.index.ensures (c.is_resting.ensures c.if-not-is_resting.false);
      long = c.loop-place.invariant.long;
    }

pub returns : goal.returns
returns g c = λ yes. below_all IsResting c.loop-place.place c.args.shards.now.items (let a = c.loop-place-test.false in let b = c.loop-place.invariant.long in omega (arith, a, b)) c.loop-place.invariant.rest
