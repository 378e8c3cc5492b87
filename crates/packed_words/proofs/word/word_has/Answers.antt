use Rattle.packed_words.proofs.OneWord.{word_has_is}
use Rattle.packed_words.proofs.word.word_has.Goals as goal

pub returns : goal.returns
returns c = word_has_is c.args.a c.args.member c.requires
