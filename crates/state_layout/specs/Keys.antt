-- A key of words for tables in memory: cheaper than the hash that the owner stands on, and not part of any format.
use Rattle.std.specs.Prelude.{ℕ, ◌*◌, ◌/◌, ◌%◌, ◌^◌, bit_xor, List, fold}

-- the high half of a word is folded onto its low half
abbrev pub folded : ℕ → ℕ
folded n = bit_xor n (n / 2 ^ 32)

-- each word is mixed in by a multiplication
abbrev pub key_step : ℕ → ℕ → ℕ
key_step key word = folded ((bit_xor key word * 0x9e3779b97f4a7c15) % 2 ^ 64)

abbrev pub key_onto : ℕ → List ℕ → ℕ
key_onto key words = fold key_step key words

abbrev pub key_of : List ℕ → ℕ
key_of words = key_onto 0x243f6a8885a308d3 words
