use Rattle.std.proofs.Common.{length}
use Rattle.dypdl_ground.proofs.ways.+ways.Given as goal

abbrev pub decreases-ways : goal.decreases-ways
decreases-ways l = length l.counts.now
