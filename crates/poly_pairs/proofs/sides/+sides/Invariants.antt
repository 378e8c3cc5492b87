use Rattle.std.proofs.Common.{◌+◌, ◌*◌}
use Rattle.poly_pairs.proofs.sides.+sides.Given as goal

abbrev pub decreases-by_all_sides : goal.decreases-by_all_sides
decreases-by_all_sides l = 5 * l.depth + 0

abbrev pub decreases-by_sides : goal.decreases-by_sides
decreases-by_sides l = 5 * l.depth + 4

abbrev pub decreases-by_known : goal.decreases-by_known
decreases-by_known l = 5 * l.depth + 3

abbrev pub decreases-by_extreme : goal.decreases-by_extreme
decreases-by_extreme l = 5 * l.depth + 2

abbrev pub decreases-by_side : goal.decreases-by_side
decreases-by_side l = 5 * l.depth + 1

abbrev pub decreases-by_sum : goal.decreases-by_sum
decreases-by_sum l = 5 * l.depth + 1
