-- The cells of the code, as what is filled.
use Rattle.dypdl_data.specs.Cells.{Filling}
use Rattle.dypdl_data.specs.declared.cells.Filled.{Filled}

abbrev pub filling : Filled → Filling
filling f = record { cells = f.cells; given = f.given.items }
