use Rattle.std.proofs.Common.{◌≡◌, ◌∙◌, true, List, get_or, sym, subst, refl, arith}
use Rattle.std.proofs.lemmas.Bool.{and_parts}
use Rattle.dp_model.specs.Typing.{is_set_kind, kind_at}
use Rattle.packed_words.specs.Sets.{one_word}
use Rattle.state_layout.specs.declared.layout.Slot.{Slot}
use Rattle.packed_spots.proofs.Slots as slots
use Rattle.packed_spots.proofs.effects.set_members.Goals as goal

pub set_word-requires-clause-one : goal.set_word-requires-clause-one
set_word-requires-clause-one c = λ slot there.
    let here : slot ≡ get_or c.args.at.now.slots.now c.args.v slot = subst (λ (slots : List Slot). slot ≡ get_or slots c.args.v slot) c.requires.slots there in
    let kind : is_set_kind (kind_at c.args.at.now.model.now.variables c.args.v) ≡ true = (and_parts (is_set_kind (kind_at c.args.at.now.model.now.variables c.args.v)) _ c.requires.fits).0 in
    let same : slot.count ≡ c.set_slot-count.result.count = slots.set_members c.args.at.now.model.now c.args.at.now.slots.now c.args.at.now.words.now c.args.v c.args.at.now.shown kind slot here ∙ sym c.set_slot-count.ensures.count in
    omega (arith, same, c.if-count-ge1.true, c.if-count-le64.true)

pub set_word-requires-clause-below : goal.set_word-requires-clause-below
unfolding one_word
set_word-requires-clause-below c = λ slot m there past.
    let here : slot ≡ get_or c.args.at.now.slots.now c.args.v slot = subst (λ (slots : List Slot). slot ≡ get_or slots c.args.v slot) c.requires.slots there in
    let kind : is_set_kind (kind_at c.args.at.now.model.now.variables c.args.v) ≡ true = (and_parts (is_set_kind (kind_at c.args.at.now.model.now.variables c.args.v)) _ c.requires.fits).0 in
    let same : slot.count ≡ c.set_slot-count.result.count = slots.set_members c.args.at.now.model.now c.args.at.now.slots.now c.args.at.now.words.now c.args.v c.args.at.now.shown kind slot here ∙ sym c.set_slot-count.ensures.count in
    c.in_ok-word.ensures.clean.above m (omega (arith, same, past))

pub returns-in_ok-word : goal.returns-in_ok-word
unfolding one_word
returns-in_ok-word c = rw (c.in_ok-word.ensures.members, c.set_word.ensures) refl
