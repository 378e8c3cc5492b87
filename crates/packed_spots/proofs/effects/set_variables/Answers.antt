use Rattle.std.proofs.Common.{◌≡◌, length, rules}
use Rattle.eval_room.specs.Needs.{effect_fits}
use Rattle.packed_spots.proofs.Rooms.{served}
use Rattle.packed_spots.proofs.effects.set_variables.Goals as goal

pub set_variable-requires-clause-fits : goal.set_variable-requires-clause-fits
set_variable-requires-clause-fits c =
    let same : c.deref-effect-items.result.now ≡ c.args.effects.now = search rules in
    rw c.loop-place.auto.stack (served (effect_fits c.args.at.now.model.now (length c.args.at.now.args.now)) c.args.effects.now c.deref-effect-items.result.now (length c.args.stack.now) c.loop-place.place c.effect-item.result same c.requires.fits c.loop-place-test.true c.effect-item.is)
