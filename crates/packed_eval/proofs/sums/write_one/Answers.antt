use Rattle.std.proofs.Common.{arith, ◌∙◌}
use Rattle.packed_eval.proofs.Ways.{one_where}
use Rattle.packed_eval.proofs.sums.write_one.Goals as goal

pub returns : goal.returns
returns c = c.with.ensures.members ∙ rw c.clear.ensures.members (one_where c.args.member 0 c.args.count (omega arith) (omega arith))
