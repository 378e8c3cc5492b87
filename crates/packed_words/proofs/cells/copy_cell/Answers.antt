use Rattle.std.specs.Option.{option_copied}
use Rattle.std.proofs.Common.{rules, ◌≡◌, ◌∙◌, sym, ap, Some, None}
use Rattle.packed_words.specs.Tables.{cell_in}
use Rattle.packed_words.proofs.Packs.{copied_members, copied_clean, cell_none}
use Rattle.packed_words.proofs.cells.copy_cell.Goals as goal

pub returns-in-Some-clause-members : goal.returns-in-Some-clause-members
returns-in-Some-clause-members c = λ p e. (let there : Some c.in-Some.words.now ≡ cell_in c.args.at.now.model.now c.args.t p = sym (ap option_copied c.in-Some.is) ∙ c.set_at.ensures p e in copied_members c.args.at.now.model.now c.args.t p c.in-Some.words.now _ _ there (search rules) (let items : c.deref.result.now ≡ c.in-Some.words.now = search rules in rw items at c.copy_words.ensures.same))

pub returns-in-Some-clause-clean : goal.returns-in-Some-clause-clean
returns-in-Some-clause-clean c = λ p e. (let there : Some c.in-Some.words.now ≡ cell_in c.args.at.now.model.now c.args.t p = sym (ap option_copied c.in-Some.is) ∙ c.set_at.ensures p e in copied_clean c.args.at.now.model.now c.args.t p c.in-Some.words.now _ _ there (search rules) (let items : c.deref.result.now ≡ c.in-Some.words.now = search rules in rw items at c.copy_words.ensures.same))

pub returns-in-None-clause-members : goal.returns-in-None-clause-members
returns-in-None-clause-members c = λ p e. (let there : None ≡ cell_in c.args.at.now.model.now c.args.t p = sym (ap option_copied c.in-None.is) ∙ c.set_at.ensures p e in c.clear.ensures.members ∙ sym (cell_none c.args.at.now.model.now c.args.t p there))
