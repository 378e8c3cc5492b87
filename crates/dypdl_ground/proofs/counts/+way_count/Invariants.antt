use Rattle.std.proofs.Common.{length}
use Rattle.dypdl_ground.proofs.counts.+way_count.Given as goal

abbrev pub decreases-way_count : goal.decreases-way_count
decreases-way_count l = length l.counts.now
