use Rattle.std.proofs.Common.{length}
use Rattle.dypdl_data.proofs.cells.+place_by.Given as goal

abbrev pub decreases-place_by : goal.decreases-place_by
decreases-place_by l = length l.counts.now
