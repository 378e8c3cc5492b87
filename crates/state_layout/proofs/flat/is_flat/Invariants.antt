use Rattle.std.proofs.Common.{◌≡◌, ℕ, ◌<◌, true, get_or}
use Rattle.state_layout.specs.declared.layout.Slot.{Slot}
use Rattle.state_layout.specs.Signatures.{word_count}
use Rattle.state_layout.specs.Packing.{is_set}
use Rattle.state_layout.proofs.flat.is_flat.Given as goal

abbrev pub invariant-loop-place : goal.invariant-loop-place
invariant-loop-place l = (j : ℕ) (slot : Slot) → j < l.place → slot ≡ get_or l.slots j slot → is_set slot.kind ≡ true → word_count slot.count ≡ 1
