use Rattle.packed_spots.proofs.Rooms.{preconditions_room}
use Rattle.packed_spots.proofs.moves.is_enabled_past_first.Goals as goal

pub all_at-requires-clause-fits : goal.all_at-requires-clause-fits
all_at-requires-clause-fits c = preconditions_room c.args.at.now.model.now _ c.args.number c.args.transition.now c.args.at.now.args.now c.requires.room c.requires.step
