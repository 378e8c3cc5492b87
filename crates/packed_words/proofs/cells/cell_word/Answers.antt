use Rattle.std.specs.Option.{option_copied}
use Rattle.std.proofs.Common.{rules, ◌≡◌, ◌∙◌, sym, ap, Some, None}
use Rattle.packed_words.specs.Sets.{one_word}
use Rattle.packed_words.specs.Tables.{cell_in}
use Rattle.packed_words.proofs.Packs.{word_members, word_clean, cell_none, zero_members, zero_clean, zero_word}
use Rattle.packed_words.proofs.cells.cell_word.Goals as goal

pub returns-in-Some-clause-members : goal.returns-in-Some-clause-members
returns-in-Some-clause-members c = λ p e. (let there : Some c.in-Some.words.now ≡ cell_in c.args.at.now.model.now c.args.t p = sym (ap option_copied c.in-Some.is) ∙ c.set_at.ensures p e in word_members c.args.at.now.model.now c.args.t p c.in-Some.words.now c.first_word.result there c.requires (search rules))

pub returns-in-Some-clause-clean : goal.returns-in-Some-clause-clean
returns-in-Some-clause-clean c = λ p e. (let there : Some c.in-Some.words.now ≡ cell_in c.args.at.now.model.now c.args.t p = sym (ap option_copied c.in-Some.is) ∙ c.set_at.ensures p e in word_clean c.args.at.now.model.now c.args.t p c.in-Some.words.now c.first_word.result there c.requires (search rules))

pub returns-in-None-clause-members : goal.returns-in-None-clause-members
returns-in-None-clause-members c = λ p e. (let there : None ≡ cell_in c.args.at.now.model.now c.args.t p = sym (ap option_copied c.in-None.is) ∙ c.set_at.ensures p e in zero_members (one_word 0) zero_word ∙ sym (cell_none c.args.at.now.model.now c.args.t p there))

pub returns-in-None-clause-clean : goal.returns-in-None-clause-clean
returns-in-None-clause-clean c = λ p e. zero_clean _ (one_word 0) zero_word
