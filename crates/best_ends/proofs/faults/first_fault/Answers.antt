use Rattle.std.proofs.Common.{◌≡◌, List, length, slice_index_or, None, sym, ◌∙◌, arith}
use Rattle.best_shard.specs.declared.shard.BestShardEnd.{BestShardEnd}
use Rattle.best_ends.specs.Left.{IsSomeFault}
use Rattle.best_ends.proofs.Best.{all_taken, next_taken, none_met_more, is_none, no_end}
use Rattle.best_ends.proofs.faults.first_fault.Goals as goal

pub loop-end-preserved : goal.loop-end-preserved
loop-end-preserved c =
    let end = slice_index_or c.args.ends.now c.loop-end.end-index no_end in
    next_taken (λ (es : List BestShardEnd). IsSomeFault es None) c.args.ends.now c.loop-end.end-index no_end c.loop-end-test.true
    (none_met_more _ end c.loop-end.invariant (is_none end.fault (sym c.is_some.ensures ∙ c.if-is_some.false)))

pub returns : goal.returns
returns c =
    let e : c.loop-end.end-index ≡ length c.args.ends.now = omega arith in
    all_taken (λ (es : List BestShardEnd). IsSomeFault es None) c.args.ends.now c.loop-end.end-index e c.loop-end.invariant
