use Rattle.std.proofs.Common.{rules, ap}
use Rattle.std.specs.Prelude.{bit_and}
use Rattle.std.specs.Int.{bit_not, w64}
use Rattle.packed_words.proofs.Marks.{clean_of}
use Rattle.packed_words.proofs.OneWord.{word_complement}
use Rattle.packed_words.proofs.word.other_word.Goals as goal

pub returns-clause-members : goal.returns-clause-members
returns-clause-members c = word_complement c.args.a _ c.args.count c.requires (search rules) (ap (bit_and (bit_not w64 c.args.a)) c.mask.ensures)

pub returns-clause-clean : goal.returns-clause-clean
returns-clause-clean c = clean_of c.args.count _ _ (word_complement c.args.a _ c.args.count c.requires (search rules) (ap (bit_and (bit_not w64 c.args.a)) c.mask.ensures))
