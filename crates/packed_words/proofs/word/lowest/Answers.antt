use Rattle.std.proofs.Common.{rules, arith}
use Rattle.packed_words.proofs.Firsts.{lowest_bit, lowest_below, no_bits}
use Rattle.packed_words.proofs.word.lowest.Goals as goal

pub returns-clause-first : goal.returns-clause-first
returns-clause-first c = lowest_bit c.args.a (search rules) (omega arith)

pub returns-clause-below : goal.returns-clause-below
returns-clause-below c = lowest_below c.args.a _ (lowest_bit c.args.a (search rules) (omega arith))

pub returns-then-a-eq0-clause-first : goal.returns-then-a-eq0-clause-first
returns-then-a-eq0-clause-first c = no_bits c.args.a (omega arith)
