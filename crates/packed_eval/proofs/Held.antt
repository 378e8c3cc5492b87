-- A set that is held while another is evaluated, and sets in one word.
use Rattle.std.proofs.Common.{◌≡◌, ℕ, ◌≤◌, ◌<◌, List, [], ◌∷◌, length, slice_set, refl, arith}
use Rattle.bit_sets.proofs.Ranges.{filter_none}
use Rattle.bit_sets.specs.Sets.{members_of, has_bit, bound_of}
use Rattle.state_layout.specs.Signatures.{word_count}
use Rattle.packed_words.specs.Sets.{IsClean, one_word}

-- a set of an object type without members has none
pub none_there : (words : List ℕ) → IsClean 0 words → members_of words ≡ []
none_there words h = filter_none (has_bit words) 0 (bound_of words) (λ k u v. h.above k (omega arith))

pub none_members : (words : List ℕ) → words ≡ [] → members_of words ≡ []
none_members words e = rw e refl

pub no_words : (count : ℕ) (out : List ℕ) → count ≡ 0 → length out ≡ word_count count → out ≡ []
no_words count [] e h = refl
no_words count (x ∷ xs) e h = absurd (let long : length (x ∷ xs) ≡ 0 = rw e at h in cc)

pub one_for : (count : ℕ) → 0 < count → count ≤ 64 → word_count count ≡ 1
one_for count h k = omega (arith, h, k)

pub word_written : (out : List ℕ) (word : ℕ) → length out ≡ 1 → slice_set out 0 word ≡ one_word word
unfolding one_word
word_written [] word h = absurd (omega (arith, h))
word_written (x ∷ []) word h = refl
word_written (x ∷ y ∷ ys) word h = absurd (omega (arith, h))
