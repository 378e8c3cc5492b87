use Rattle.std.proofs.Common.{◌≡◌, ◌∙◌, length, get_or, ap, sym, arith, rules, subst}
use Rattle.std.specs.Prelude.{List}
use Rattle.state_layout.specs.declared.layout.Slot.{Slot}
use Rattle.state_layout.specs.Signatures.{word_count}
use Rattle.packed_spots.proofs.Slots.{set_len}
use Rattle.packed_spots.proofs.effects.set_wide.Goals as goal

pub set_members-requires-clause-len : goal.set_members-requires-clause-len
set_members-requires-clause-len c = λ slot there.
    let here : slot ≡ get_or c.args.at.now.slots.now c.args.v slot = subst (λ (slots : List Slot). slot ≡ get_or slots c.args.v slot) c.requires.slots there in
    let len : length c.set_into.new.out ≡ word_count c.set_count-count.result = search rules in
    len ∙ ap word_count (sym (set_len c.args.at.now.model.now c.args.at.now.slots.now c.args.at.now.words.now c.args.v c.args.e.now (length c.args.at.now.args.now) (length c.args.stack.now) c.set_count-count.result c.args.at.now.shown c.requires.fits c.set_count-count.ensures.value slot here))

pub set_members-requires-clause-below : goal.set_members-requires-clause-below
set_members-requires-clause-below c = λ slot k there past.
    let here : slot ≡ get_or c.args.at.now.slots.now c.args.v slot = subst (λ (slots : List Slot). slot ≡ get_or slots c.args.v slot) c.requires.slots there in
    let same = set_len c.args.at.now.model.now c.args.at.now.slots.now c.args.at.now.words.now c.args.v c.args.e.now (length c.args.at.now.args.now) (length c.args.stack.now) c.set_count-count.result c.args.at.now.shown c.requires.fits c.set_count-count.ensures.value slot here in
    c.in_ok-set_into.ensures.clean.above k (omega (arith, same, past))
