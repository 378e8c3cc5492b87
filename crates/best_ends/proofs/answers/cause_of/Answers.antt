use Rattle.std.proofs.Common.{◌≤◌, arith}
use Rattle.best_ends.proofs.answers.cause_of.Goals as goal

pub returns-in_ok-fault_in-in_default : goal.returns-in_ok-fault_in-in_default
returns-in_ok-fault_in-in_default c p records before after left =
    let most : 3 ≤ after.raised = omega (arith, left.cause_is) in
    (most, c.in_ok-fault_in-in_default.ensures p records before after left)
