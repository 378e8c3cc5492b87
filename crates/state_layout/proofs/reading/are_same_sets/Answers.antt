use Rattle.std.proofs.Common.{arith, refl}
use Rattle.std.proofs.lemmas.Bool.{false≢true}
use Rattle.state_layout.proofs.Decoding.{sets_same, words_differ}
use Rattle.state_layout.proofs.reading.are_same_sets.Goals as goal

pub returns-then-word_in : goal.returns-then-word_in
returns-then-word_in c = (
  λ h. absurd (false≢true h),
  λ h. absurd (
      let same = words_differ c.args.a.now c.args.b.now c.args.place c.loop-number.number c.requires.left.inside c.requires.right.inside (λ k. (c.type_inv.a k).fits) (λ k. (c.type_inv.b k).fits) h in
      omega (arith, same, c.word_in.ensures.word, c.word_in-in-loop-number.ensures.word)),
)

pub returns : goal.returns
returns c = (λ h. sets_same c.args.a.now c.args.b.now c.args.slot.count c.args.place c.loop-number.number c.requires.left.inside c.requires.right.inside (λ m l. c.requires.left.below m c.requires.kind l) (λ m l. c.requires.right.below m c.requires.kind l) (omega (arith, c.word_count-number-end.ensures)) c.loop-number.invariant, λ h. refl)
