use Rattle.dypdl_load.proofs.Loaded.{steps_differ}
use Rattle.dypdl_load.proofs.laws.steps_differ.Goals as goal

pub returns : goal.returns
returns c read domain problem m means i j less within same = steps_differ read domain problem m means i j less within same
