use Rattle.std.proofs.Common.{length}
use Rattle.poly_eval.proofs.atoms.+is_same_sum.Given as goal

abbrev pub decreases-is_same_sum : goal.decreases-is_same_sum
decreases-is_same_sum l = length l.a.now
