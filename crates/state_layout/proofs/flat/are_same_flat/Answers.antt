use Rattle.std.proofs.Common.{arith, refl}
use Rattle.std.proofs.lemmas.Bool.{false≢true}
use Rattle.state_layout.proofs.Stepping.{states_same, value_from_states}
use Rattle.state_layout.proofs.Flattening.{flat_same_there, first_word_there}
use Rattle.state_layout.proofs.flat.are_same_flat.Goals as goal

pub returns-then-first_word : goal.returns-then-first_word
returns-then-first_word c = (
  λ h. absurd (false≢true h),
  λ h. absurd (
      let same = first_word_there c.args.slots.now c.args.a.now c.args.b.now c.requires.left c.requires.right c.loop-place.place (omega arith) (λ k. (c.type_inv.a k).fits) (λ k. (c.type_inv.b k).fits) (value_from_states c.args.a.now c.args.b.now c.loop-place.place (omega (arith, c.requires.left.count)) (omega (arith, c.requires.right.count)) h) in
      omega (arith, same, c.first_word.ensures, c.first_word-in-loop-place.ensures)),
)

pub returns : goal.returns
returns c = (λ h. states_same c.args.slots.now c.args.a.now c.args.b.now c.requires.left c.requires.right (λ j u. flat_same_there c.args.slots.now c.args.a.now c.args.b.now c.requires.left c.requires.right j u c.requires.flat (c.loop-place.invariant j (omega arith))), λ h. refl)
