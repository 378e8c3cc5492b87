use Rattle.std.proofs.Common.{◌<◌, length, arith}
use Rattle.best_first.proofs.Resting.{read_at}
use Rattle.best_first.proofs.alone.one_has_stopped.Goals as goal

pub returns-then-has_stopped : goal.returns-then-has_stopped
returns-then-has_stopped g c =
    let shards = c.args.shards.now.items in
    let inside : c.loop-place.place < length shards = (let a = c.loop-place-test.true in let b = c.loop-place.invariant in omega (arith, a, b)) in
    λ yes. (c.loop-place.place, c.index.result.now, read_at shards c.loop-place.place c.index.result.now inside c.index.ensures, c.has_stopped.ensures.stopped c.if-has_stopped.true)
