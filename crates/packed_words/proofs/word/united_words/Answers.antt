use Rattle.std.proofs.Common.{refl, sym, ◌∙◌}
use Rattle.packed_words.proofs.Marks.{united_members, clean_of}
use Rattle.packed_words.proofs.OneWord.{one_length, word_union}
use Rattle.packed_words.specs.Sets.{one_word}
use Rattle.packed_words.proofs.word.united_words.Goals as goal

pub returns-clause-members : goal.returns-clause-members
returns-clause-members c = united_members c.args.count (one_word c.args.a) (one_word c.args.b) _ c.requires.clean (one_length c.args.a ∙ sym (one_length c.args.b)) c.requires.clean_right (word_union c.args.a c.args.b _ refl)

pub returns-clause-clean : goal.returns-clause-clean
returns-clause-clean c = clean_of c.args.count _ _ (united_members c.args.count (one_word c.args.a) (one_word c.args.b) _ c.requires.clean (one_length c.args.a ∙ sym (one_length c.args.b)) c.requires.clean_right (word_union c.args.a c.args.b _ refl))
