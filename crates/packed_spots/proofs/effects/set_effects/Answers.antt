use Rattle.std.proofs.Common.{◌≡◌, Ok, rules}
use Rattle.state_layout.specs.Packing.{state_in}
use Rattle.spot_eval.specs.Moves.{next_at}
use Rattle.spot_eval.proofs.Next.{next_fits}
use Rattle.packed_spots.proofs.Rooms.{effects_room}
use Rattle.packed_spots.proofs.effects.set_effects.Goals as goal

pub set_variables-requires-clause-fits : goal.set_variables-requires-clause-fits
set_variables-requires-clause-fits c = effects_room c.args.at.now.model.now _ c.args.number c.args.transition.now c.args.at.now.args.now c.requires.room c.requires.step

pub returns-clause-packed : goal.returns-clause-packed
returns-clause-packed c =
    let e : next_at c.args.at.now.model.now (state_in c.args.at.now.words.now) c.args.number (c.args.transition.now, c.args.at.now.args.now) ≡ Ok c.set_variables.new.draft.state = search rules in
    next_fits c.args.at.now.model.now (state_in c.args.at.now.words.now) c.args.number (c.args.transition.now, c.args.at.now.args.now) c.set_variables.new.draft.state c.requires.step e c.requires.packed
