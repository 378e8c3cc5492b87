use Rattle.std.proofs.Common.{ℕ, subst, arith}
use Rattle.packed_words.specs.Sets.{IsClean}
use Rattle.packed_words.proofs.Shown.{set_copied, clean_copied}
use Rattle.packed_words.proofs.scene.copy_set.Goals as goal

pub returns-clause-members : goal.returns-clause-members
returns-clause-members c = set_copied c.args.at.now.words.now c.set_slot-slot.result c.args.v c.set_slot-slot.ensures.held c.set_slot-slot.ensures.kind c.loop-number.out
    (omega (arith, c.set_slot-slot.ensures.count, c.requires.len)) (λ j h. c.loop-number.invariant j (omega arith))

pub returns-clause-clean : goal.returns-clause-clean
returns-clause-clean c = subst (λ (n : ℕ). IsClean n c.loop-number.out) c.set_slot-slot.ensures.count (clean_copied c.args.at.now.words.now c.set_slot-slot.result c.args.v c.set_slot-slot.ensures.held c.set_slot-slot.ensures.kind c.loop-number.out
    (omega (arith, c.set_slot-slot.ensures.count, c.requires.len)) (λ j h. c.loop-number.invariant j (omega arith)))
