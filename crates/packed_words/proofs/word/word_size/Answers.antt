use Rattle.std.proofs.Common.{rules}
use Rattle.packed_words.proofs.OneWord.{word_ones}
use Rattle.packed_words.proofs.word.word_size.Goals as goal

pub returns : goal.returns
returns c = word_ones c.args.a (search rules)
