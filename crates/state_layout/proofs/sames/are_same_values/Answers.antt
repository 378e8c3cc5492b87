use Rattle.std.proofs.Common.{rules, arith, refl}
use Rattle.std.proofs.lemmas.Bool.{false≢true, both_ways}
use Rattle.state_layout.proofs.Stepping.{states_same, value_from_states}
use Rattle.state_layout.proofs.sames.are_same_values.Goals as goal

pub returns-then-not-is_same_value : goal.returns-then-not-is_same_value
returns-then-not-is_same_value c = (λ h. absurd (false≢true h), λ h. absurd (both_ways c.is_same_value.result (search rules) (c.is_same_value.ensures.1 (value_from_states c.args.a.now c.args.b.now c.loop-place.place (omega (arith, c.requires.left.count)) (omega (arith, c.requires.right.count)) h))))

pub returns : goal.returns
returns c = (λ h. states_same c.args.slots.now c.args.a.now c.args.b.now c.requires.left c.requires.right (λ j u. c.loop-place.invariant j (omega arith)), λ h. refl)
