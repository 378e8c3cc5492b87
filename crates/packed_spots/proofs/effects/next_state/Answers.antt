use Rattle.std.proofs.Common.{◌∙◌}
use Rattle.packed_spots.proofs.effects.next_state.Goals as goal

pub draft-requires : goal.draft-requires
draft-requires c = (c.args.at.now.model.now, c.requires.layout ∙ c.args.at.now.shown.layout, c.requires.packed)
