use Rattle.honest_steps.proofs.Law.{the_law}
use Rattle.honest_steps.proofs.Left.{seen_after_is}
use Rattle.honest_steps.proofs.views.seen_after.Goals as goal

pub returns-in-Some : goal.returns-in-Some
returns-in-Some c =
    let step = rw c.in-Some.is at c.in_ok-table.ensures in
    seen_after_is the_law c.args.model.now c.args.mode.now c.args.ground c.in-Some.field-0 step
