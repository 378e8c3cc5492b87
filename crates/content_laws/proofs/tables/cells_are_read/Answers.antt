use Rattle.content_laws.proofs.Celling.{given_cell_law, default_cell_law}
use Rattle.content_laws.proofs.tables.cells_are_read.Goals as goal

pub returns : goal.returns
returns c = record { written = given_cell_law; left = default_cell_law }
