use Rattle.dypdl_load.proofs.RuleSizes.{moves_few}
use Rattle.dypdl_load.proofs.Readings.{the_reading, reads}
use Rattle.dypdl_load.proofs.whole.read_rules.Goals as goal

pub returns-clause-few : goal.returns-clause-few
returns-clause-few c = (moves_few the_reading _ _ _ c.in_ok-moves.moves (c.in_ok-moves.ensures.moves the_reading reads)).0
