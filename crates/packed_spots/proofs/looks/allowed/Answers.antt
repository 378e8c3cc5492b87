use Rattle.packed_spots.proofs.Rooms.{constraints_room}
use Rattle.packed_spots.proofs.looks.allowed.Goals as goal

pub all_at-requires-clause-fits : goal.all_at-requires-clause-fits
all_at-requires-clause-fits c = constraints_room c.args.at.now.model.now _ c.args.at.now.args.now c.requires.room c.requires.none
