use Rattle.std.proofs.Common.{sym, ◌∙◌}
use Rattle.bit_sets.specs.Sets.{members_of}
use Rattle.dp_model.specs.Evaluation.{cells_of, set_cell}
use Rattle.packed_words.specs.Sets.{one_word}
use Rattle.packed_words.proofs.OnePass.{cell_at, cell_fault}
use Rattle.packed_eval.proofs.Arguments.{clean_placed}
use Rattle.packed_eval.proofs.cells.word_placed.Goals as goal

pub returns-in-Ok-clause-members : goal.returns-in-Ok-clause-members
returns-in-Ok-clause-members c = λ operands e. sym (cell_at c.args.at.now.model.now c.args.t (set_cell (cells_of c.args.at.now.model.now c.args.t)) operands c.in-Ok.place (members_of (one_word c.cell_word.result)) (sym c.in-Ok.is ∙ e) c.cell_word.ensures.members)

pub returns-in-Err-clause-members : goal.returns-in-Err-clause-members
returns-in-Err-clause-members c = λ operands e. sym (cell_fault c.args.at.now.model.now c.args.t (set_cell (cells_of c.args.at.now.model.now c.args.t)) operands c.in-Err.kind (sym c.in-Err.is ∙ e))

pub returns-in-Ok-clause-clean : goal.returns-in-Ok-clause-clean
returns-in-Ok-clause-clean c = λ operands e. clean_placed c.args.at.now.model.now c.args.t operands c.in-Ok.place (one_word c.cell_word.result) (sym c.in-Ok.is ∙ e) c.cell_word.ensures.clean
