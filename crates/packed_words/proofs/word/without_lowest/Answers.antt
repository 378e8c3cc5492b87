use Rattle.std.proofs.Common.{rules}
use Rattle.packed_words.proofs.Firsts.{less_one, at_least_one}
use Rattle.packed_words.proofs.word.without_lowest.Goals as goal

pub overflow_sub-result : goal.overflow_sub-result
overflow_sub-result c = at_least_one c.args.a c.args.first c.requires.first

pub returns : goal.returns
returns c = less_one c.args.a c.args.first (search rules) c.requires.below c.requires.first
