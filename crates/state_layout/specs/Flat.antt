-- Layouts whose states are told by the first row alone, and those of models without resources.
use Rattle.std.specs.Prelude.{◌≡◌, ℕ, ◌<◌, true, List, length, slice_index_or}
use Rattle.dp_model.specs.Typing.{is_without}
use Rattle.state_layout.specs.declared.layout.Slot.{Slot}
use Rattle.state_layout.specs.Signatures.{word_count}
use Rattle.state_layout.specs.Packing.{is_set}

-- each variable that holds a set has one word for it, so that the first row has all words
abbrev pub IsFlat : List Slot → Type 0
IsFlat slots = (place : ℕ) (slot : Slot) → place < length slots → slot ≡ slice_index_or slots place slot → is_set slot.kind ≡ true → word_count slot.count ≡ 1

-- of no variable is a lesser or a greater value preferred
abbrev pub HasNoResource : List Slot → Type 0
HasNoResource slots = (place : ℕ) (slot : Slot) → place < length slots → slot ≡ slice_index_or slots place slot → is_without slot.preference ≡ true
