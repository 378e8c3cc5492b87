use Rattle.dypdl_load.specs.Seen.{parts_seen}
use Rattle.dypdl_load.proofs.Readings.{the_reading, reads}
use Rattle.dypdl_load.proofs.Fitting.{fits}
use Rattle.dypdl_load.proofs.whole.load.Goals as goal

pub model_of-requires : goal.model_of-requires
model_of-requires c =
    fits the_reading c.args.domain.now c.args.problem.now (parts_seen c.in_ok-read_parts.field-0) (c.in_ok-read_parts.ensures the_reading reads)
