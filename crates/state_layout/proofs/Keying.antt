-- The key of a state's words, value by value.
use Rattle.std.proofs.Common.{◌≡◌, ℕ, ◌+◌, List, [], ◌∷◌, ◌++◌, map, sym, ap, ◌∙◌, arith}
use Rattle.std.specs.List.{range_with_len}
use Rattle.std.proofs.lemmas.List.FromFn.{map-range_with_len_more}
use Rattle.std.proofs.lemmas.List.Sums.{fold-append}
use Rattle.state_layout.specs.Signatures.{set_word}
use Rattle.state_layout.specs.Keys.{key_step, key_onto}

pub key_append : (key : ℕ) (words more : List ℕ) → key_onto key (words ++ more) ≡ key_onto (key_onto key words) more
key_append key words more = fold-append key_step key words more

-- one word of a set more
pub key_set_more : (key : ℕ) (set : List ℕ) (n : ℕ) → key_step (key_onto key (map (set_word set) (range_with_len 0 n))) (set_word set n) ≡ key_onto key (map (set_word set) (range_with_len 0 (n + 1)))
key_set_more key set n = sym (ap (key_onto key) (map-range_with_len_more (set_word set) 0 n n (omega arith)) ∙ key_append key (map (set_word set) (range_with_len 0 n)) (set_word set n ∷ []))
