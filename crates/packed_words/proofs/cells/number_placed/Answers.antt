use Rattle.std.proofs.Common.{rules, sym, ◌∙◌, FitsSigned, w64}
use Rattle.std.proofs.lemmas.Int.{to_z-of_z}
use Rattle.dp_model.specs.Evaluation.{cells_of, number_cell}
use Rattle.packed_words.proofs.OnePass.{cell_at, cell_fault}
use Rattle.packed_words.proofs.cells.number_placed.Goals as goal

pub returns-in-Ok : goal.returns-in-Ok
returns-in-Ok c =
    let fits : FitsSigned w64 c.number_cell.result = search rules in
    λ operands e. rw (to_z-of_z w64 c.number_cell.result fits) (cell_at c.args.model.now c.args.t (number_cell (cells_of c.args.model.now c.args.t)) operands c.in-Ok.place c.number_cell.result (sym c.in-Ok.is ∙ e) c.number_cell.ensures)

pub returns-in-Err : goal.returns-in-Err
returns-in-Err c = λ operands e. cell_fault c.args.model.now c.args.t (number_cell (cells_of c.args.model.now c.args.t)) operands c.in-Err.kind (sym c.in-Err.is ∙ e)
