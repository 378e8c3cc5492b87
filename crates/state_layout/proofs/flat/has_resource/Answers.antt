use Rattle.std.proofs.Common.{◌≡◌, true, rules, arith, refl, sym, ◌∙◌}
use Rattle.std.proofs.lemmas.Bool.{false≢true, both_ways}
use Rattle.dp_model.specs.Typing.{is_without}
use Rattle.state_layout.specs.declared.layout.Slot.{Slot}
use Rattle.state_layout.proofs.Flattening.{each_more, each_at}
use Rattle.state_layout.proofs.flat.has_resource.Goals as goal

pub returns-then-not-is_without : goal.returns-then-not-is_without
returns-then-not-is_without c = (λ h. absurd (false≢true (sym h)), λ none. absurd (both_ways c.is_without.result (search rules) (c.is_without.ensures ∙ each_at (λ (s : Slot). is_without s.preference ≡ true) c.args.slots.now c.loop-place.place _ (omega arith) none)))

pub loop-place-preserved : goal.loop-place-preserved
loop-place-preserved c = each_more (λ (s : Slot). is_without s.preference ≡ true) c.args.slots.now c.loop-place.place _ (omega arith) (sym c.is_without.ensures ∙ search rules) c.loop-place.invariant

pub returns : goal.returns
returns c = (λ h place slot u. c.loop-place.invariant place slot (omega arith), λ h. refl)
