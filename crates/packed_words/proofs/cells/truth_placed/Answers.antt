use Rattle.std.proofs.Common.{sym, ◌∙◌}
use Rattle.dp_model.specs.Evaluation.{cells_of, truth_cell}
use Rattle.packed_words.proofs.OnePass.{cell_at, cell_fault}
use Rattle.packed_words.proofs.cells.truth_placed.Goals as goal

pub returns-in-Ok : goal.returns-in-Ok
returns-in-Ok c = λ operands e. cell_at c.args.model.now c.args.t (truth_cell (cells_of c.args.model.now c.args.t)) operands c.in-Ok.place c.truth_cell.result (sym c.in-Ok.is ∙ e) c.truth_cell.ensures

pub returns-in-Err : goal.returns-in-Err
returns-in-Err c = λ operands e. cell_fault c.args.model.now c.args.t (truth_cell (cells_of c.args.model.now c.args.t)) operands c.in-Err.kind (sym c.in-Err.is ∙ e)
