use Rattle.std.proofs.Common.{◌≡◌, true, rules, arith, refl}
use Rattle.std.proofs.lemmas.Bool.{false≢true, both_ways}
use Rattle.state_layout.specs.declared.layout.Slot.{Slot}
use Rattle.state_layout.specs.Signatures.{word_count}
use Rattle.state_layout.specs.Packing.{is_set}
use Rattle.state_layout.proofs.Flattening.{each_more, each_at}
use Rattle.state_layout.proofs.flat.is_flat.Goals as goal

pub returns-then-not-has_one_word : goal.returns-then-not-has_one_word
returns-then-not-has_one_word c = (λ h. absurd (false≢true h), λ flat. absurd (both_ways c.has_one_word.result (search rules) (c.has_one_word.ensures.1 (each_at (λ (s : Slot). is_set s.kind ≡ true → word_count s.count ≡ 1) c.args.slots.now c.loop-place.place _ (omega arith) flat))))

pub loop-place-preserved : goal.loop-place-preserved
loop-place-preserved c = each_more (λ (s : Slot). is_set s.kind ≡ true → word_count s.count ≡ 1) c.args.slots.now c.loop-place.place _ (omega arith) (c.has_one_word.ensures.0 (search rules)) c.loop-place.invariant

pub returns : goal.returns
returns c = (λ h place slot u. c.loop-place.invariant place slot (omega arith), λ h. refl)
