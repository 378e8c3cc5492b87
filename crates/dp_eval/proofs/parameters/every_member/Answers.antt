use Rattle.std.proofs.Common.{arith, ◌+◌, ◌≡◌}
use Rattle.std.proofs.lemmas.Grind.{common_steps}
use Rattle.dp_eval.proofs.Steps.{range-more}
use Rattle.dp_eval.proofs.parameters.every_member.Goals as goal

pub loop-member-preserved : goal.loop-member-preserved
loop-member-preserved c =
    let n = c.loop-member.member in
    let z : 0 + n ≡ n = omega arith in
    rw (range-more 0 n, z) (grind (arith, common_steps))
