-- What is known of the words of a state that a layout's slots fit.
use Rattle.std.specs.Prelude.{◌≡◌, ℕ, ◌+◌, ◌-◌, ◌<◌, ◌≤◌, Bool, true, false, not, ◌&&◌, nat_lt, List, length, slice_index_or, slice_set, take}
use Rattle.std.specs.List.{filter}
use Rattle.state_layout.specs.declared.layout.Slot.{Slot}
use Rattle.bit_sets.specs.Sets.{has_bit}
use Rattle.dp_model.specs.Typing.{is_set_below}
use Rattle.dp_model.specs.declared.parts.VarKind.TheVariants as kinds
use Rattle.dp_model.specs.declared.parts.Preference.TheVariants.{Without}
use Rattle.dp_model.specs.declared.parts.PlainValue.TheVariants.{Number, Members}
use Rattle.dp_model.specs.declared.parts.PlainValue.{PlainValue}
use Rattle.dp_model.specs.declared.parts.PlainState.{PlainState}
use Rattle.state_layout.specs.Signatures.{word_count}
use Rattle.state_layout.specs.Packing.{count_in, holds_set, rank_in, sets_in, head_of, further_place, word_in, has_member, is_set, HasFirstRow}

-- The variable at a place holds what the slot says: a set has no member from the count on. The first row is there.
pub record HoldsSlot (slot : Slot) (words : List ℕ) (place : ℕ) : Type 0 where
  pub inside : place < count_in words
  pub row : HasFirstRow words
  pub kind : holds_set words place ≡ is_set slot.kind
  pub rank : slot.rank ≡ rank_in words place
  pub sets : slot.sets ≡ sets_in words
  pub below : (m : ℕ) → is_set slot.kind ≡ true → slot.count ≤ m → has_member words place m ≡ false

pub record Fits (slots : List Slot) (words : List ℕ) : Type 0 where
  pub count : count_in words ≡ length slots
  pub few : length slots < 65536
  pub row : head_of (length slots) + length slots ≤ length words
  pub holds : (place : ℕ) (slot : Slot) → place < length slots → slot ≡ slice_index_or slots place slot → HoldsSlot slot words place

-- they have a place for each word of each variable
pub record HasRoom (slots : List Slot) (words : List ℕ) : Type 0 where
  pub fits : Fits slots words
  pub room : (place number : ℕ) (slot : Slot) → place < length slots → slot ≡ slice_index_or slots place slot → is_set slot.kind ≡ true → 1 ≤ number → number < word_count slot.count → further_place (length slots) slot.sets slot.rank number < length words

-- the state with another value at a place
abbrev pub with_value : PlainState → ℕ → PlainValue → PlainState
with_value s place x = record { values = slice_set s.values place x }

-- new words are the old ones but for those of the variable at a place
pub record Elsewhere (place : ℕ) (old new : List ℕ) : Type 0 where
  pub long : length new ≡ length old
  pub count : count_in new ≡ count_in old
  pub kind : (p : ℕ) → p < count_in old → holds_set new p ≡ holds_set old p
  pub word : (p number : ℕ) → p < count_in old → (p ≡ place → ⊥) → word_in new p number ≡ word_in old p number

-- of those, the words before a number are what a function says, and the others are as they were
pub record Written (place : ℕ) (f : ℕ → ℕ) (upto : ℕ) (old new : List ℕ) : Type 0 where
  pub elsewhere : Elsewhere place old new
  pub here : (number : ℕ) → number < upto → word_in new place number ≡ f number
  pub after : (number : ℕ) → upto ≤ number → word_in new place number ≡ word_in old place number

-- a slot may hold a value
abbrev pub holds_by : Slot → PlainValue → Bool
holds_by slot (Number n) = not (is_set slot.kind)
holds_by slot (Members set) = is_set slot.kind && is_set_below slot.count set

pub record AreHeld (slots : List Slot) (values : List PlainValue) : Type 0 where
  pub long : length values ≡ length slots
  pub each : (place : ℕ) (slot : Slot) (x : PlainValue) → place < length slots → slot ≡ slice_index_or slots place slot → x ≡ slice_index_or values place x → holds_by slot x ≡ true

-- what is read past the slots
abbrev pub no_slot : Slot
no_slot = record { kind = kinds.Integer; count = 0; preference = Without; rank = 0; sets = 0 }

-- how many of the slots before a place are those of sets
abbrev pub sets_before : List Slot → ℕ → ℕ
sets_before slots place = length (filter (λ (slot : Slot). is_set slot.kind) (take place slots))

-- each slot has how many sets come before it, and how many there are
pub record AreRanked (slots : List Slot) : Type 0 where
  pub rank : (place : ℕ) (slot : Slot) → place < length slots → slot ≡ slice_index_or slots place slot → slot.rank ≡ sets_before slots place
  pub sets : (place : ℕ) (slot : Slot) → place < length slots → slot ≡ slice_index_or slots place slot → slot.sets ≡ sets_before slots (length slots)

-- the head has the number of variables, and marks the sets among those before a place
pub record Marked (slots : List Slot) (place : ℕ) (words : List ℕ) : Type 0 where
  pub number : count_in words ≡ length slots
  pub bits : (k : ℕ) → 16 ≤ k → has_bit words k ≡ (nat_lt k (16 + place) && is_set (slice_index_or slots (k - 16) no_slot).kind)

-- rows enough for each set
pub record HasRows (slots : List Slot) (upto rows : ℕ) : Type 0 where
  pub one : 1 ≤ rows
  pub few : rows ≤ 67108864
  pub enough : (place : ℕ) (slot : Slot) → place < upto → slot ≡ slice_index_or slots place slot → is_set slot.kind ≡ true → word_count slot.count ≤ rows
