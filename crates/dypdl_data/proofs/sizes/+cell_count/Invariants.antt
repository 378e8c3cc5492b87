use Rattle.std.proofs.Common.{length}
use Rattle.dypdl_data.proofs.sizes.+cell_count.Given as goal

abbrev pub decreases-cell_count : goal.decreases-cell_count
decreases-cell_count l = length l.args.now
