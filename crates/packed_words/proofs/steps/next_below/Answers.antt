use Rattle.std.proofs.Common.{arith}
use Rattle.packed_words.proofs.Nexts.{whole_next, whole_end}
use Rattle.packed_words.proofs.steps.next_below.Goals as goal

pub returns-then-from-count-clause-value : goal.returns-then-from-count-clause-value
returns-then-from-count-clause-value c = whole_next c.args.count c.args.from (omega arith)

pub returns-else-from-count-clause-value : goal.returns-else-from-count-clause-value
returns-else-from-count-clause-value c = whole_end c.args.count c.args.from (omega arith)
