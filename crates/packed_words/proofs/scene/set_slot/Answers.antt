use Rattle.packed_words.proofs.Shown.{set_inside, set_held, set_kind, set_count, set_few, past_slots}
use Rattle.packed_words.proofs.scene.set_slot.Goals as goal

pub bounds-at-v : goal.bounds-at-v
bounds-at-v c = set_inside c.args.at.now.model.now c.args.at.now.slots.now c.args.at.now.words.now c.args.at.now.shown c.args.v c.requires

pub returns-clause-held : goal.returns-clause-held
returns-clause-held c = set_held c.args.at.now.model.now c.args.at.now.slots.now c.args.at.now.words.now c.args.at.now.shown c.args.v c.requires past_slots

pub returns-clause-kind : goal.returns-clause-kind
returns-clause-kind c = set_kind c.args.at.now.model.now c.args.at.now.slots.now c.args.at.now.words.now c.args.at.now.shown c.args.v c.requires past_slots

pub returns-clause-count : goal.returns-clause-count
returns-clause-count c = set_count c.args.at.now.model.now c.args.at.now.slots.now c.args.at.now.words.now c.args.at.now.shown c.args.v c.requires past_slots

pub returns-clause-few : goal.returns-clause-few
returns-clause-few c = set_few c.args.at.now.model.now c.args.at.now.slots.now c.args.at.now.words.now c.args.at.now.shown c.args.v c.requires past_slots
