use Rattle.std.proofs.Common.{rules, ◌<◌, length}
use Rattle.poly_terms.specs.Worth.{worth}
use Rattle.poly_terms.proofs.Sums.{side_more, side_done}
use Rattle.honest_states.proofs.absorbing.absorbed.Goals as goal

pub loop-term-preserved : goal.loop-term-preserved
loop-term-preserved c = λ v fits.
    let lt : c.loop-term.term-index < length c.args.terms.now = search rules in
    side_more v c.args.terms.now c.loop-term.term-index c.term-item.result (worth v c.add_absorbed.new.less.items) (worth v c.loop-term.less.items) (worth v c.args.terms.now) lt c.term-item.is
    (c.in_ok-add_absorbed.ensures c.if-not-branch.false v fits) (c.loop-term.invariant v fits)

pub returns : goal.returns
returns c = λ v fits. side_done v c.args.terms.now c.loop-term.term-index (worth v c.loop-term.less.items) (worth v c.args.terms.now) c.loop-term-test.false (c.loop-term.invariant v fits)
