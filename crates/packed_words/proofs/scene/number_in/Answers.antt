use Rattle.packed_words.proofs.Shown.{number_held, past_slots}
use Rattle.packed_words.proofs.scene.number_in.Goals as goal

pub number_in-requires-clause-place : goal.number_in-requires-clause-place
number_in-requires-clause-place c = (number_held c.args.at.now.model.now c.args.at.now.slots.now c.args.at.now.words.now c.args.at.now.shown c.args.v past_slots c.requires).0

pub number_in-requires-clause-kind : goal.number_in-requires-clause-kind
number_in-requires-clause-kind c = (number_held c.args.at.now.model.now c.args.at.now.slots.now c.args.at.now.words.now c.args.at.now.shown c.args.v past_slots c.requires).1
