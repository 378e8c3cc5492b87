use Rattle.std.proofs.Common.{rules, arith}
use Rattle.packed_words.proofs.Nexts.{bit_past, bit_here, bit_nowhere}
use Rattle.packed_words.proofs.steps.first_bit.Goals as goal

pub returns-then-from-ge64 : goal.returns-then-from-ge64
returns-then-from-ge64 c = bit_past c.args.word c.args.from (omega arith)

pub returns-then-rest-eq0 : goal.returns-then-rest-eq0
returns-then-rest-eq0 c = bit_nowhere c.args.word c.args.from (omega arith) (search rules)

pub returns : goal.returns
returns c = bit_here c.args.word c.args.from (search rules) (omega arith) (omega arith)
