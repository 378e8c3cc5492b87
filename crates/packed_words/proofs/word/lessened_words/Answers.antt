use Rattle.std.proofs.Common.{rules, refl}
use Rattle.packed_words.proofs.Marks.{lessened_members, clean_of}
use Rattle.packed_words.proofs.OneWord.{word_minus}
use Rattle.packed_words.specs.Sets.{one_word}
use Rattle.packed_words.proofs.word.lessened_words.Goals as goal

pub returns-clause-members : goal.returns-clause-members
returns-clause-members c = lessened_members c.args.count (one_word c.args.a) (one_word c.args.b) _ c.requires.clean (word_minus c.args.a c.args.b _ (search rules) refl)

pub returns-clause-clean : goal.returns-clause-clean
returns-clause-clean c = clean_of c.args.count _ _ (lessened_members c.args.count (one_word c.args.a) (one_word c.args.b) _ c.requires.clean (word_minus c.args.a c.args.b _ (search rules) refl))
