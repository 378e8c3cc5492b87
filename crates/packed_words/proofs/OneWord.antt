-- What an operation on two words means for sets in one word each.
use Rattle.std.proofs.Common.{◌≡◌, ℕ, zero, suc, ◌+◌, ◌/◌, ◌%◌, ◌*◌, ◌^◌, ◌<◌, ◌≤◌, Bool, true, false, not, ◌&&◌, ◌||◌, eqb, List, length, get_or, set, refl, sym, ap, ◌∙◌, inl, inr, arith}
use Rattle.std.specs.Prelude.{bit_and, bit_or, count_ones}
use Rattle.std.specs.Int.{bit_at, bit_not, w64}
use Rattle.std.specs.List.{list_all}
use Rattle.std.specs.Str.{bytes_eq}
use Rattle.std.proofs.lemmas.Bool.{cases_eq, eq-eqb, ne_eqb}
use Rattle.std.proofs.lemmas.Slice.Eq.{bytes_eq-Decides}
use Rattle.std.proofs.lemmas.Nat.Bits.{shr_and_one}
use Rattle.bit_sets.specs.Sets.{bound_of, has, has_bit, mask_of, members_of, members_where}
use Rattle.bit_sets.proofs.Meanings.{has_is_bit, union_members, meet_members, minus_members, complement_members, insert_members, remove_members, size_more, all_within, not_within, words_same}
use Rattle.packed_words.specs.Sets.{one_word}

first : (P : ℕ → Type 0) → P 0 → (k : ℕ) → k < 1 → P k
first P p zero h = p
first P p (suc k) h = absurd (omega arith)

small : (a : ℕ) → a < 2 ^ 64 → (k : ℕ) → get_or (one_word a) k 0 < 2 ^ 64
unfolding one_word
small a h zero = h
small a h (suc k) = omega arith

module _ (a b x : ℕ) where
  pub word_union : x ≡ bit_or a b → members_of (one_word x) ≡ members_where (bound_of (one_word a)) (λ k. has (members_of (one_word a)) k || has (members_of (one_word b)) k)
  unfolding one_word
  word_union e = union_members (one_word a) (one_word b) (one_word x) refl (first (λ k. get_or (one_word x) k 0 ≡ bit_or (get_or (one_word a) k 0) (get_or (one_word b) k 0)) e)

  pub word_meet : x ≡ bit_and a b → members_of (one_word x) ≡ members_where (bound_of (one_word a)) (λ k. has (members_of (one_word a)) k && has (members_of (one_word b)) k)
  unfolding one_word
  word_meet e = meet_members (one_word a) (one_word b) (one_word x) refl (first (λ k. get_or (one_word x) k 0 ≡ bit_and (get_or (one_word a) k 0) (get_or (one_word b) k 0)) e)

  pub word_minus : b < 2 ^ 64 → x ≡ bit_and a (bit_not w64 b) → members_of (one_word x) ≡ members_where (bound_of (one_word a)) (λ k. has (members_of (one_word a)) k && not (has (members_of (one_word b)) k))
  unfolding one_word
  word_minus h e = minus_members (one_word a) (one_word b) (one_word x) refl (first (λ k. get_or (one_word x) k 0 ≡ bit_and (get_or (one_word a) k 0) (bit_not w64 (get_or (one_word b) k 0))) e) (small b h)

  pub word_within : a < 2 ^ 64 → b < 2 ^ 64 → eqb (bit_and a (bit_not w64 b)) 0 ≡ list_all (has (members_of (one_word b))) (members_of (one_word a))
  unfolding one_word
  word_within p q = elim (cases_eq (bit_and a (bit_not w64 b)) 0) [
    | inl e ↦ eq-eqb (bit_and a (bit_not w64 b)) 0 e ∙ sym (all_within (one_word a) (one_word b) (small b q) (first (λ k. bit_and (get_or (one_word a) k 0) (bit_not w64 (get_or (one_word b) k 0)) ≡ 0) e))
    | inr e ↦ ne_eqb (bit_and a (bit_not w64 b)) 0 e ∙ sym (not_within (one_word a) (one_word b) 0 (small a p) (small b q) (omega arith) (omega (arith, e)))
  ]

  pub word_same : a < 2 ^ 64 → b < 2 ^ 64 → eqb a b ≡ bytes_eq (members_of (one_word a)) (members_of (one_word b))
  unfolding one_word
  word_same p q = elim (cases_eq a b) [
    | inl e ↦ eq-eqb a b e ∙ sym ((bytes_eq-Decides (members_of (one_word a)) (members_of (one_word b))).1 (ap (λ (z : ℕ). members_of (one_word z)) e))
    | inr e ↦ ne_eqb a b e ∙ other (bytes_eq (members_of (one_word a)) (members_of (one_word b))) refl e
  ]
    where
      other : (r : Bool) → bytes_eq (members_of (one_word a)) (members_of (one_word b)) ≡ r → (a ≡ b → ⊥) → false ≡ r
      other true r e = absurd (e (ap (λ (ws : List ℕ). get_or ws 0 0) (words_same (one_word a) (one_word b) refl (small a p) (small b q) ((bytes_eq-Decides (members_of (one_word a)) (members_of (one_word b))).0 r))))
      other false r e = refl

module _ (a x : ℕ) where
  pub word_complement : (count : ℕ) → count ≤ 64 → a < 2 ^ 64 → x ≡ bit_and (bit_not w64 a) (mask_of count 0) → members_of (one_word x) ≡ members_where count (λ k. not (has (members_of (one_word a)) k))
  unfolding one_word
  word_complement count few p e = complement_members (one_word a) (one_word x) count refl few (first (λ k. get_or (one_word x) k 0 ≡ bit_and (bit_not w64 (get_or (one_word a) k 0)) (mask_of count k)) e) (small a p)

  pub word_insert : (m : ℕ) → m < 64 → x ≡ bit_or a (1 * 2 ^ m % 2 ^ 64) → members_of (one_word x) ≡ members_where (bound_of (one_word a)) (λ k. eqb k m || has (members_of (one_word a)) k)
  unfolding one_word
  word_insert m h e =
      let at : m / 64 ≡ 0 = omega arith in
      let bit : m % 64 ≡ m = omega arith in
      let there : set (one_word a) (m / 64) x ≡ one_word x = rw at refl in
      let value : x ≡ bit_or (get_or (one_word a) (m / 64) 0) (1 * 2 ^ (m % 64) % 2 ^ 64) = rw (at, bit) e in
      ap members_of (sym there) ∙ insert_members (one_word a) m x h value

  pub word_remove : (m : ℕ) → m < 64 → x ≡ bit_and a (bit_not w64 (1 * 2 ^ m % 2 ^ 64)) → members_of (one_word x) ≡ members_where (bound_of (one_word a)) (λ k. not (eqb k m) && has (members_of (one_word a)) k)
  unfolding one_word
  word_remove m h e =
      let at : m / 64 ≡ 0 = omega arith in
      let bit : m % 64 ≡ m = omega arith in
      let there : set (one_word a) (m / 64) x ≡ one_word x = rw at refl in
      let value : x ≡ bit_and (get_or (one_word a) (m / 64) 0) (bit_not w64 (1 * 2 ^ (m % 64) % 2 ^ 64)) = rw (at, bit) e in
      ap members_of (sym there) ∙ remove_members (one_word a) m x h value

pub word_bit : (a m : ℕ) → m < 64 → has_bit (one_word a) m ≡ eqb (bit_at a m) 1
unfolding one_word
word_bit a m h =
    let at : m / 64 ≡ 0 = omega arith in
    let bit : m % 64 ≡ m = omega arith in
    rw (at, bit) refl

pub word_has_is : (a m : ℕ) → m < 64 → eqb (bit_and (a / 2 ^ m) 1) 1 ≡ has (members_of (one_word a)) m
unfolding one_word
word_has_is a m h = ap (λ z. eqb z 1) (shr_and_one a m) ∙ sym (has_is_bit (one_word a) m ∙ word_bit a m h)

pub word_ones : (a : ℕ) → a < 2 ^ 64 → count_ones a ≡ length (members_of (one_word a))
unfolding one_word
word_ones a h =
    let e : length (members_of (one_word a)) ≡ 0 + count_ones a = size_more (one_word a) 0 (small a h) in
    omega (arith, e)

pub one_length : (a : ℕ) → length (one_word a) ≡ 1
unfolding one_word
one_length a = refl

pub only_word : (a : ℕ) (word : ℕ → ℕ) → a ≡ word 0 → (j : ℕ) → j < length (one_word a) → get_or (one_word a) j 0 ≡ word j
unfolding one_word
only_word a word e zero h = e
only_word a word e (suc j) h = absurd (omega arith)
