use Rattle.std.proofs.Common.{length, rules, arith}
use Rattle.spot_eval.specs.Moves.{others_of}
use Rattle.successors.proofs.Cases.{number_at}
use Rattle.successors.proofs.switches.switches_of.Goals as goal

pub loop-number-preserved : goal.loop-number-preserved
loop-number-preserved c =
    let m = c.args.model.now in
    let there = number_at (others_of m) c.deref-number-items.result.now c.loop-number.number-index (length c.loop-number.switches.items) (search rules) c.loop-number-test.true c.loop-number.invariant.1 in
    (c.in_ok-head.ensures.switches m (others_of m) _ c.loop-number.invariant.0 there c.wanted_by.ensures.kind c.wanted_by.ensures.case, omega (arith, c.in_ok-head.ensures.long, c.loop-number.invariant.1))
