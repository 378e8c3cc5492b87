use Rattle.std.proofs.Common.{rules}
use Rattle.packed_words.proofs.OneWord.{word_same}
use Rattle.packed_words.proofs.word.is_same_word.Goals as goal

pub returns : goal.returns
returns c = word_same c.args.a c.args.b c.args.a (search rules) (search rules)
