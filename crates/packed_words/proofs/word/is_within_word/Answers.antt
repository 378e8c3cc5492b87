use Rattle.std.proofs.Common.{rules}
use Rattle.packed_words.proofs.OneWord.{word_within}
use Rattle.packed_words.proofs.word.is_within_word.Goals as goal

pub returns : goal.returns
returns c = word_within c.args.a c.args.b c.args.a (search rules) (search rules)
