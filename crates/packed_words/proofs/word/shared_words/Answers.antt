use Rattle.std.proofs.Common.{refl}
use Rattle.packed_words.proofs.Marks.{shared_members, clean_of}
use Rattle.packed_words.proofs.OneWord.{word_meet}
use Rattle.packed_words.specs.Sets.{one_word}
use Rattle.packed_words.proofs.word.shared_words.Goals as goal

pub returns-clause-members : goal.returns-clause-members
returns-clause-members c = shared_members c.args.count (one_word c.args.a) (one_word c.args.b) _ c.requires.clean (word_meet c.args.a c.args.b _ refl)

pub returns-clause-clean : goal.returns-clause-clean
returns-clause-clean c = clean_of c.args.count _ _ (shared_members c.args.count (one_word c.args.a) (one_word c.args.b) _ c.requires.clean (word_meet c.args.a c.args.b _ refl))
