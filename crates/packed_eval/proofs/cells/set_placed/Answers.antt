use Rattle.std.proofs.Common.{sym, ◌∙◌}
use Rattle.dp_model.specs.Evaluation.{cells_of, set_cell}
use Rattle.packed_words.proofs.OnePass.{cell_at, cell_fault}
use Rattle.packed_eval.proofs.Arguments.{clean_placed}
use Rattle.packed_eval.proofs.cells.set_placed.Goals as goal

pub returns-in-Ok-clause-members : goal.returns-in-Ok-clause-members
returns-in-Ok-clause-members c = λ operands e. sym (cell_at c.args.at.now.model.now c.args.t (set_cell (cells_of c.args.at.now.model.now c.args.t)) operands c.in-Ok.place _ (sym c.in-Ok.is ∙ e) c.copy_cell.ensures.members)

pub returns-in-Err-clause-members : goal.returns-in-Err-clause-members
returns-in-Err-clause-members c = λ operands e. sym (cell_fault c.args.at.now.model.now c.args.t (set_cell (cells_of c.args.at.now.model.now c.args.t)) operands c.in-Err.kind (sym c.in-Err.is ∙ e))

pub returns-in-Ok-clause-clean : goal.returns-in-Ok-clause-clean
returns-in-Ok-clause-clean c = λ operands e. clean_placed c.args.at.now.model.now c.args.t operands c.in-Ok.place _ (sym c.in-Ok.is ∙ e) c.copy_cell.ensures.clean
