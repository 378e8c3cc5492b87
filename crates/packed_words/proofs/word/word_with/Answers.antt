use Rattle.std.proofs.Common.{refl, arith}
use Rattle.packed_words.specs.Sets.{one_word}
use Rattle.packed_words.proofs.Marks.{with_members, clean_of}
use Rattle.packed_words.proofs.OneWord.{one_length, word_insert}
use Rattle.packed_words.proofs.word.word_with.Goals as goal

pub returns-clause-members : goal.returns-clause-members
returns-clause-members c = with_members c.args.count (one_word c.args.a) _ c.args.member c.requires.clean (omega (arith, c.requires.few, one_length c.args.a)) c.requires.member (word_insert c.args.a _ c.args.member (omega (arith, c.requires.few, c.requires.member)) refl)

pub returns-clause-clean : goal.returns-clause-clean
returns-clause-clean c = clean_of c.args.count _ _ (with_members c.args.count (one_word c.args.a) _ c.args.member c.requires.clean (omega (arith, c.requires.few, one_length c.args.a)) c.requires.member (word_insert c.args.a _ c.args.member (omega (arith, c.requires.few, c.requires.member)) refl))
