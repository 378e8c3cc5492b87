use Rattle.std.proofs.Common.{◌≡◌, List, length, slice_index_or, arith}
use Rattle.std.proofs.lemmas.Option.{slice_get-get_or}
use Rattle.best_shard.specs.declared.shard.BestShardEnd.{BestShardEnd}
use Rattle.best_ends.specs.Left.{IsBestHeld}
use Rattle.best_ends.proofs.Best.{all_taken, next_taken, best_more, new_wide, no_end}
use Rattle.best_ends.proofs.bests.best_held.Goals as goal

pub loop-end-preserved : goal.loop-end-preserved
loop-end-preserved g c =
    let minimize = g.L.CostLaw.minimize in
    let operator = g.L.CostLaw.operator in
    let ends = c.args.ends.now in
    let i = c.loop-end.end-index in
    let end = slice_index_or ends i no_end in
    let best = c.better_of-best.result in
    let is = c.better_of-best.ensures in
    let before = c.loop-end.invariant in
    record {
      best = next_taken (λ (es : List BestShardEnd). IsBestHeld minimize operator es best) ends i no_end c.loop-end-test.true (best_more minimize operator _ end c.loop-end.best best before.best is);
      wide = new_wide minimize operator c.loop-end.best end.held best is before.wide (c.requires i end (slice_get-get_or ends i no_end c.loop-end-test.true));
    }

pub returns : goal.returns
returns g c =
    let e : c.loop-end.end-index ≡ length c.args.ends.now = omega arith in
    all_taken (λ (es : List BestShardEnd). IsBestHeld g.L.CostLaw.minimize g.L.CostLaw.operator es c.loop-end.best) c.args.ends.now c.loop-end.end-index e c.loop-end.invariant.best
