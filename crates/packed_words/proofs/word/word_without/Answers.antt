use Rattle.std.proofs.Common.{refl, arith}
use Rattle.packed_words.specs.Sets.{one_word}
use Rattle.packed_words.proofs.Marks.{without_members, clean_of}
use Rattle.packed_words.proofs.OneWord.{word_remove}
use Rattle.packed_words.proofs.word.word_without.Goals as goal

pub returns-clause-members : goal.returns-clause-members
returns-clause-members c = without_members c.args.count (one_word c.args.a) _ c.args.member c.requires.clean (word_remove c.args.a _ c.args.member (omega (arith, c.requires.few, c.requires.member)) refl)

pub returns-clause-clean : goal.returns-clause-clean
returns-clause-clean c = clean_of c.args.count _ _ (without_members c.args.count (one_word c.args.a) _ c.args.member c.requires.clean (word_remove c.args.a _ c.args.member (omega (arith, c.requires.few, c.requires.member)) refl))
