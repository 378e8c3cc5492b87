use Rattle.std.proofs.Common.{◌≡◌, ℕ, ◌<◌, true, get_or}
use Rattle.dp_model.specs.Typing.{is_without}
use Rattle.state_layout.specs.declared.layout.Slot.{Slot}
use Rattle.state_layout.proofs.flat.has_resource.Given as goal

abbrev pub invariant-loop-place : goal.invariant-loop-place
invariant-loop-place l = (j : ℕ) (slot : Slot) → j < l.place → slot ≡ get_or l.slots j slot → is_without slot.preference ≡ true
