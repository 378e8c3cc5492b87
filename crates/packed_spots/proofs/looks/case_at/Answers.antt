use Rattle.packed_spots.proofs.Rooms.{conditions_room}
use Rattle.packed_spots.proofs.looks.case_at.Goals as goal

pub all_at-requires-clause-fits : goal.all_at-requires-clause-fits
all_at-requires-clause-fits c = conditions_room c.args.at.now.model.now _ c.args.case.now c.args.at.now.args.now c.requires.room c.requires.none
