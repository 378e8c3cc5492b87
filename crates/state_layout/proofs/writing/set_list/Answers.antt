use Rattle.std.proofs.Common.{◌∙◌, ◌+◌, ℕ, List, set, subst, sym, arith}
use Rattle.state_layout.specs.Forms.{Written}
use Rattle.state_layout.specs.Packing.{word_place}
use Rattle.state_layout.specs.Signatures.{set_word}
use Rattle.state_layout.proofs.Placing.{written_more, slot_kept, set_inside, list_written}
use Rattle.state_layout.proofs.writing.set_list.Goals as goal

pub put_word-requires-clause-rank : goal.put_word-requires-clause-rank
put_word-requires-clause-rank c = (slot_kept c.args.slots.now c.args.place c.args.slot (set_word c.args.set.now) c.loop-number.number c.args.words.now c.loop-number.words c.requires.room c.requires.place c.requires.slot c.loop-number.invariant.elsewhere).0

pub put_word-requires-clause-sets : goal.put_word-requires-clause-sets
put_word-requires-clause-sets c = (slot_kept c.args.slots.now c.args.place c.args.slot (set_word c.args.set.now) c.loop-number.number c.args.words.now c.loop-number.words c.requires.room c.requires.place c.requires.slot c.loop-number.invariant.elsewhere).1

pub put_word-requires-clause-row : goal.put_word-requires-clause-row
put_word-requires-clause-row c = (slot_kept c.args.slots.now c.args.place c.args.slot (set_word c.args.set.now) c.loop-number.number c.args.words.now c.loop-number.words c.requires.room c.requires.place c.requires.slot c.loop-number.invariant.elsewhere).4

pub put_word-requires-clause-room : goal.put_word-requires-clause-room
put_word-requires-clause-room c = λ h. omega (arith, c.requires.room.room c.args.place c.loop-number.number c.args.slot c.requires.place c.requires.slot c.requires.kind h (omega (arith, c.word_count-number-end.ensures)), c.loop-number.invariant.elsewhere.long)

pub loop-number-preserved : goal.loop-number-preserved
loop-number-preserved c =
    let so : Written c.args.place (set_word c.args.set.now) (c.loop-number.number + 1) c.args.words.now (set c.loop-number.words (word_place c.loop-number.words c.args.place c.loop-number.number) c.set_word.result) = written_more c.args.place (set_word c.args.set.now) c.loop-number.number c.set_word.result c.args.words.now c.loop-number.words c.loop-number.invariant (omega (arith, c.requires.room.fits.count)) (λ h. (c.requires.room.fits.holds c.args.place c.args.slot c.requires.place c.requires.slot).kind ∙ c.requires.kind) (set_inside c.args.slots.now c.args.place c.args.slot (set_word c.args.set.now) c.loop-number.number c.args.words.now c.loop-number.words c.requires.room c.requires.place c.requires.slot c.requires.kind c.loop-number.invariant (omega (arith, c.word_count-number-end.ensures))) c.set_word.ensures in
    subst (λ (x : List ℕ). Written c.args.place (set_word c.args.set.now) (c.loop-number.number + 1) c.args.words.now x) (sym c.put_word.ensures) so

pub returns-clause-room : goal.returns-clause-room
returns-clause-room c = (list_written c.args.slots.now c.args.words.now c.loop-number.words c.args.set.now c.args.place c.args.slot c.loop-number.number c.requires.room c.requires.place c.requires.slot c.requires.kind c.loop-number.invariant (omega (arith, c.word_count-number-end.ensures)) c.requires.below).0

pub returns-clause-state : goal.returns-clause-state
returns-clause-state c = (list_written c.args.slots.now c.args.words.now c.loop-number.words c.args.set.now c.args.place c.args.slot c.loop-number.number c.requires.room c.requires.place c.requires.slot c.requires.kind c.loop-number.invariant (omega (arith, c.word_count-number-end.ensures)) c.requires.below).1
