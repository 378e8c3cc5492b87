use Rattle.dypdl_load.proofs.Readings.{the_reading, reads, one_reading}
use Rattle.dypdl_load.proofs.laws.one_reading.Goals as goal

pub returns-clause-some : goal.returns-clause-some
returns-clause-some c = (the_reading, reads)

pub returns-clause-one : goal.returns-clause-one
returns-clause-one c read other is also = one_reading read other is also
