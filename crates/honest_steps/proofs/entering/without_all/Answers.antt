use Rattle.honest_steps.proofs.Law.{the_law}
use Rattle.honest_steps.proofs.Left.{enters_more, enters_never}
use Rattle.honest_steps.proofs.entering.without_all.Goals as goal

pub returns-in-Never : goal.returns-in-Never
returns-in-Never c =
    let enters = rw c.in-Never.is at c.in_ok-without.ensures in
    enters_never the_law c.args.model.now c.args.mode.now c.args.ground c.loop-number.left c.loop-number.invariant enters

pub loop-number-preserved : goal.loop-number-preserved
loop-number-preserved c =
    let enters = rw c.in-To.is at c.in_ok-without.ensures in
    enters_more the_law c.args.model.now c.args.mode.now c.args.ground c.loop-number.left c.in-To.narrower c.loop-number.invariant enters
