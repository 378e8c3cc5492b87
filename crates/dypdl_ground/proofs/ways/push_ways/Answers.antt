use Rattle.std.proofs.Common.{arith}
use Rattle.std.proofs.lemmas.Grind.{common_steps}
use Rattle.dypdl_ground.proofs.Ranges.{members_more}
use Rattle.dypdl_ground.proofs.ways.push_ways.Goals as goal

pub loop-member-preserved : goal.loop-member-preserved
loop-member-preserved c = rw (members_more c.loop-member.member) (grind (arith, common_steps))
