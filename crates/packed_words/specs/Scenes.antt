-- What words and parameters a scene has.
use Rattle.std.specs.Prelude.{◌≡◌, ℕ, ◌<◌, ◌^◌, List, slice_index}
use Rattle.dp_model.specs.declared.whole.Model.{Model}
use Rattle.state_layout.specs.declared.layout.Slot.{Slot}
use Rattle.state_layout.specs.Forms.{Fits}
use Rattle.state_layout.specs.Slots.{slots_of}

-- the slots are those of the model's layout, and the words fit them
pub record Shows (m : Model) (slots : List Slot) (words : List ℕ) : Type 0 where
  pub layout : slots ≡ slots_of m.objects m.variables
  pub fits : Fits slots words
  pub small : (k : ℕ) → slice_index words k < 2 ^ 64

-- parameters are members of object types, which are small numbers
pub record AreSmall (args : List ℕ) : Type 0 where
  pub each : (p : ℕ) → slice_index args p < 2 ^ 32
