use Rattle.std.proofs.Common.{get_or}
use Rattle.packed_words.proofs.Shown.{set_held, set_kind, set_few, past_slots}
use Rattle.packed_words.proofs.Nexts.{next_in_set, within_set}
use Rattle.packed_words.proofs.steps.next_wide.Goals as goal

pub returns-clause-value : goal.returns-clause-value
returns-clause-value c = next_in_set c.args.at.now.words.now (get_or c.args.at.now.slots.now c.args.v past_slots) c.args.v (set_held c.args.at.now.model.now c.args.at.now.slots.now c.args.at.now.words.now c.args.at.now.shown c.args.v c.requires past_slots) (set_kind c.args.at.now.model.now c.args.at.now.slots.now c.args.at.now.words.now c.args.at.now.shown c.args.v c.requires past_slots) c.args.from c.next_in.result c.next_in.ensures

pub returns-clause-below : goal.returns-clause-below
returns-clause-below c = within_set c.args.at.now.words.now (get_or c.args.at.now.slots.now c.args.v past_slots) c.args.v (set_held c.args.at.now.model.now c.args.at.now.slots.now c.args.at.now.words.now c.args.at.now.shown c.args.v c.requires past_slots) (set_kind c.args.at.now.model.now c.args.at.now.slots.now c.args.at.now.words.now c.args.at.now.shown c.args.v c.requires past_slots) c.args.from c.next_in.result c.next_in.ensures (set_few c.args.at.now.model.now c.args.at.now.slots.now c.args.at.now.words.now c.args.at.now.shown c.args.v c.requires past_slots)
