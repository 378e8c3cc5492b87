use Rattle.std.proofs.Common.{◌∙◌, ℕ, List, set, subst, sym, ap, arith}
use Rattle.std.specs.Int.{cast_unsigned, w64}
use Rattle.std.proofs.lemmas.Int.{to_z-of_z}
use Rattle.state_layout.specs.Forms.{Written}
use Rattle.state_layout.specs.Packing.{word_place}
use Rattle.state_layout.proofs.Placing.{written_none, written_more, first_inside, number_written}
use Rattle.state_layout.proofs.writing.set_number.Goals as goal

pub returns-clause-room : goal.returns-clause-room
returns-clause-room c = (
    let f : ℕ → ℕ = λ j. cast_unsigned w64 c.args.number in
    let so : Written c.args.place f 1 c.args.words.now (set c.args.words.now (word_place c.args.words.now c.args.place 0) c.cast_unsigned.result) = written_more c.args.place f 0 c.cast_unsigned.result c.args.words.now c.args.words.now (written_none c.args.place f c.args.words.now) (omega (arith, c.requires.room.fits.count)) (λ h. absurd (omega arith)) (first_inside c.args.slots.now c.args.words.now c.args.place c.requires.room c.requires.place) (c.cast_unsigned.ensures ∙ ap (cast_unsigned w64) (to_z-of_z w64 c.args.number c.ranges.number)) in
    (number_written c.args.slots.now c.args.words.now c.put_first.new.words c.args.place c.args.slot c.args.number c.requires.room c.requires.place c.requires.slot c.requires.kind (to_z-of_z w64 c.args.number c.ranges.number) (subst (λ (x : List ℕ). Written c.args.place f 1 c.args.words.now x) (sym c.put_first.ensures) so)).0)

pub returns-clause-state : goal.returns-clause-state
returns-clause-state c = (
    let f : ℕ → ℕ = λ j. cast_unsigned w64 c.args.number in
    let so : Written c.args.place f 1 c.args.words.now (set c.args.words.now (word_place c.args.words.now c.args.place 0) c.cast_unsigned.result) = written_more c.args.place f 0 c.cast_unsigned.result c.args.words.now c.args.words.now (written_none c.args.place f c.args.words.now) (omega (arith, c.requires.room.fits.count)) (λ h. absurd (omega arith)) (first_inside c.args.slots.now c.args.words.now c.args.place c.requires.room c.requires.place) (c.cast_unsigned.ensures ∙ ap (cast_unsigned w64) (to_z-of_z w64 c.args.number c.ranges.number)) in
    (number_written c.args.slots.now c.args.words.now c.put_first.new.words c.args.place c.args.slot c.args.number c.requires.room c.requires.place c.requires.slot c.requires.kind (to_z-of_z w64 c.args.number c.ranges.number) (subst (λ (x : List ℕ). Written c.args.place f 1 c.args.words.now x) (sym c.put_first.ensures) so)).1)
