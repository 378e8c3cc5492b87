use Rattle.dypdl_data.proofs.FitTables as fit
use Rattle.dypdl_data.proofs.laws.tables_full.Goals as goal

pub returns : goal.returns
returns c = fit.tables_full
