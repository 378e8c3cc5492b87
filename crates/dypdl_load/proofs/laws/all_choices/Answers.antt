use Rattle.dypdl_load.proofs.Loaded.{all_choices}
use Rattle.dypdl_load.proofs.laws.all_choices.Goals as goal

pub returns : goal.returns
returns c read domain problem m means = all_choices read domain problem m means
