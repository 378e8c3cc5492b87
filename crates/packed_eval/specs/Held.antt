-- The first of two sets that meet, while the second is evaluated.
use Rattle.std.specs.Prelude.{ℕ, Bool, true, false, nat_le, List, take}
use Rattle.state_layout.specs.Signatures.{word_count}
use Rattle.packed_words.specs.Sets.{one_word}

abbrev pub held_as : Bool → (word : ℕ) → (words : List ℕ) → List ℕ
held_as true word words = one_word word
held_as false word words = words

-- its words: one that is in hand, or those at the front of the stack
abbrev pub held_in : (count : ℕ) → (word : ℕ) → (stack : List ℕ) → List ℕ
held_in count word stack = held_as (nat_le count 64) word (take (word_count count) stack)
