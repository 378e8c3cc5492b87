use Rattle.std.proofs.Common.{ℕ, subst, get_or, arith}
use Rattle.state_layout.specs.Packing.{word_in}
use Rattle.packed_words.specs.Sets.{IsClean, one_word}
use Rattle.packed_words.proofs.OneWord.{one_length, only_word}
use Rattle.packed_words.proofs.Shown.{set_inside, set_held, set_kind, set_count, set_copied, clean_copied, past_slots}
use Rattle.packed_words.proofs.scene.word_of.Goals as goal

pub first_word-requires-clause-place : goal.first_word-requires-clause-place
first_word-requires-clause-place c = set_inside c.args.at.now.model.now c.args.at.now.slots.now c.args.at.now.words.now c.args.at.now.shown c.args.v c.requires.kind

pub returns-clause-members : goal.returns-clause-members
returns-clause-members c = set_copied c.args.at.now.words.now (get_or c.args.at.now.slots.now c.args.v past_slots) c.args.v (set_held c.args.at.now.model.now c.args.at.now.slots.now c.args.at.now.words.now c.args.at.now.shown c.args.v c.requires.kind past_slots) (set_kind c.args.at.now.model.now c.args.at.now.slots.now c.args.at.now.words.now c.args.at.now.shown c.args.v c.requires.kind past_slots) (one_word c.first_word.result)
    (omega (arith, set_count c.args.at.now.model.now c.args.at.now.slots.now c.args.at.now.words.now c.args.at.now.shown c.args.v c.requires.kind past_slots, c.requires.few, one_length c.first_word.result)) (only_word c.first_word.result (word_in c.args.at.now.words.now c.args.v) c.first_word.ensures)

pub returns-clause-clean : goal.returns-clause-clean
returns-clause-clean c = subst (λ (n : ℕ). IsClean n (one_word c.first_word.result)) (set_count c.args.at.now.model.now c.args.at.now.slots.now c.args.at.now.words.now c.args.at.now.shown c.args.v c.requires.kind past_slots) (clean_copied c.args.at.now.words.now (get_or c.args.at.now.slots.now c.args.v past_slots) c.args.v (set_held c.args.at.now.model.now c.args.at.now.slots.now c.args.at.now.words.now c.args.at.now.shown c.args.v c.requires.kind past_slots) (set_kind c.args.at.now.model.now c.args.at.now.slots.now c.args.at.now.words.now c.args.at.now.shown c.args.v c.requires.kind past_slots) (one_word c.first_word.result)
    (omega (arith, set_count c.args.at.now.model.now c.args.at.now.slots.now c.args.at.now.words.now c.args.at.now.shown c.args.v c.requires.kind past_slots, c.requires.few, one_length c.first_word.result)) (only_word c.first_word.result (word_in c.args.at.now.words.now c.args.v) c.first_word.ensures))
