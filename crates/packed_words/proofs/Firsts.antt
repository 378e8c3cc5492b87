-- A set in one word, and what is left of it without its first member.
use Rattle.std.proofs.Common.{◌≡◌, ℕ, suc, ◌+◌, ◌-◌, ◌<◌, ◌≤◌, ◌*◌, ◌/◌, ◌%◌, ◌^◌, Bool, true, false, not, ◌&&◌, eqb, nat_le, List, [], ◌∷◌, slice_get, Option, Some, None, refl, sym, ap, ◌∙◌, subst, inl, inr, arith, le-leb}
use Rattle.std.specs.Prelude.{bit_and}
use Rattle.std.specs.Int.{bit_at, bit_not, w64, trailing_zeros}
use Rattle.std.specs.List.{filter, range_with_len}
use Rattle.std.proofs.lemmas.Bool.{cases_lt, eq-eqb, ne_eqb, leb-true}
use Rattle.bit_sets.specs.Sets.{bound_of, has, has_bit, members_of, members_where}
use Rattle.bit_sets.proofs.Meanings.{has_is_bit}
use Rattle.bit_sets.proofs.Ranges.{filter_same, filter_filter}
use Rattle.packed_words.specs.Sets.{one_word, members_from}
use Rattle.packed_words.proofs.Nexts.{is_next, filtered, bit_here, bit_nowhere, found_within}
use Rattle.std.proofs.lemmas.Nat.{pow_pos, pow-add, shr_split, and_mask, and_block, and_comm, and-not, one_shl}
use Rattle.std.proofs.lemmas.Nat.Bits.{bit_at_cat_low, bit_at-zero, same_from_bits_below, and_pow, bit_at-trailing_zeros}
use lib.Bits.{and_self}
use native.Mathlib.Nat.{add-mul, mul_assoc, mul_comm, mod_self}
use Rattle.packed_words.proofs.OneWord.{word_remove, one_length}

from_start : (xs : List ℕ) → members_from 0 xs ≡ xs
from_start [] = refl
from_start (x ∷ xs) = rw (le-leb 0 x (omega arith)) (ap (λ (ys : List ℕ). x ∷ ys) (from_start xs))

kept_at : (k x : ℕ) (xs : List ℕ) → filter (λ j. not (eqb j k)) (filter (nat_le (suc k)) xs) ≡ filter (nat_le (suc k)) xs → (b : Bool) → nat_le (suc k) x ≡ b → filter (λ j. not (eqb j k)) (filter (nat_le (suc k)) (x ∷ xs)) ≡ filter (nat_le (suc k)) (x ∷ xs)
kept_at k x xs h true q =
    let above : suc k ≤ x = leb-true (suc k) x q in
    let other : eqb x k ≡ false = ne_eqb x k (λ e. omega (arith, above, e)) in
    rw (filtered (nat_le (suc k)) x xs true q, filtered (λ j. not (eqb j k)) x (filter (nat_le (suc k)) xs) true (ap not other)) (ap (λ (ys : List ℕ). x ∷ ys) h)
kept_at k x xs h false q = rw (filtered (nat_le (suc k)) x xs false q) h

kept : (k : ℕ) (xs : List ℕ) → filter (λ j. not (eqb j k)) (filter (nat_le (suc k)) xs) ≡ filter (nat_le (suc k)) xs
kept k [] = refl
kept k (x ∷ xs) = kept_at k x xs (kept k xs) (nat_le (suc k) x) refl

same_head : (xs : List ℕ) (o : Option ℕ) → o ≡ slice_get xs 0 → o ≡ slice_get (members_from 0 xs) 0
same_head xs o e = e ∙ ap (λ (ys : List ℕ). slice_get ys 0) (sym (from_start xs))

pub lowest_bit : (w : ℕ) → w < 2 ^ 64 → 0 < w → Some (trailing_zeros w64 w) ≡ slice_get (members_of (one_word w)) 0
lowest_bit w small some =
    let whole : w / 2 ^ 0 ≡ w = omega arith in
    let found = bit_here w 0 small (omega arith) (omega (arith, whole, some)) in
    let sum : trailing_zeros w64 w ≡ 0 + trailing_zeros w64 (w / 2 ^ 0) = (omega arith) ∙ ap (λ (x : ℕ). 0 + trailing_zeros w64 x) (sym whole) in
    ap (λ (j : ℕ). Some j) sum ∙ found ∙ ap (λ (ys : List ℕ). slice_get ys 0) (from_start (members_of (one_word w)))

pub no_bits : (w : ℕ) → w ≡ 0 → None ≡ slice_get (members_of (one_word w)) 0
no_bits w e = bit_nowhere w 0 (omega arith) (omega (arith, e)) ∙ ap (λ (ys : List ℕ). slice_get ys 0) (from_start (members_of (one_word w)))

pub lowest_below : (w k : ℕ) → Some k ≡ slice_get (members_of (one_word w)) 0 → k < 64
lowest_below w k e =
    let found = found_within (has_bit (one_word w)) (bound_of (one_word w)) 0 k (members_of (one_word w)) refl (same_head (members_of (one_word w)) (Some k) e) in
    omega (arith, found.1, one_length w)

pub lowest_split : (a k x : ℕ) → k < 64 → Some k ≡ slice_get (members_of (one_word a)) 0 → x ≡ bit_and a (bit_not w64 (1 * 2 ^ k % 2 ^ 64)) → members_of (one_word a) ≡ k ∷ members_of (one_word x)
lowest_split a k x below first e =
    let xs = members_of (one_word a) in
    let n = bound_of (one_word a) in
    let next : members_from 0 xs ≡ k ∷ members_from (suc k) xs = is_next (has_bit (one_word a)) n 0 xs (Some k) refl (same_head xs (Some k) first) in
    let split : xs ≡ k ∷ members_from (suc k) xs = sym (from_start xs) ∙ next in
    let removed : members_of (one_word x) ≡ members_where n (λ j. not (eqb j k) && has xs j) = word_remove a x k below e in
    let tested : members_where n (λ j. not (eqb j k) && has xs j) ≡ members_where n (λ j. not (eqb j k) && has_bit (one_word a) j) = filter_same (λ j. not (eqb j k) && has xs j) (λ j. not (eqb j k) && has_bit (one_word a) j) 0 n (λ j l u. ap (λ (b : Bool). not (eqb j k) && b) (has_is_bit (one_word a) j)) in
    let others : members_where n (λ j. not (eqb j k) && has_bit (one_word a) j) ≡ filter (λ j. not (eqb j k)) xs = sym (filter_filter (λ j. not (eqb j k)) (has_bit (one_word a)) (range_with_len 0 n)) in
    let dropped : filter (λ j. not (eqb j k)) (k ∷ members_from (suc k) xs) ≡ filter (λ j. not (eqb j k)) (members_from (suc k) xs) = filtered (λ j. not (eqb j k)) k (members_from (suc k) xs) false (ap not (eq-eqb k k refl)) in
    let rest : members_of (one_word x) ≡ members_from (suc k) xs = removed ∙ tested ∙ others ∙ ap (λ (ys : List ℕ). filter (λ j. not (eqb j k)) ys) split ∙ dropped ∙ kept k xs in
    split ∙ ap (λ (ys : List ℕ). k ∷ ys) (sym rest)

-- ---- the lowest bit, taken away by a subtraction

within : (a m : ℕ) → 0 < m → a % m < m
within a m some = omega (arith, some)

no_lower : (a k : ℕ) → ((i : ℕ) → i < k → bit_at a i ≡ 0) → a % 2 ^ k ≡ 0
no_lower a k none =
    let each : (i : ℕ) → i < k → bit_at (a % 2 ^ k) i ≡ bit_at 0 i = λ i u. sym (bit_at_cat_low (a / 2 ^ k) k (a % 2 ^ k) i u) ∙ (ap (λ (x : ℕ). bit_at x i) (shr_split a k) ∙ (none i u ∙ sym (bit_at-zero i))) in
    same_from_bits_below k (a % 2 ^ k) 0 (within a (2 ^ k) (pow_pos k)) (pow_pos k) each

times : (q x p z : ℕ) → p ≡ q * 2 + 1 → z ≡ x * 2 → p * x ≡ q * z + x
times q x p z e f = rw (e, f, add-mul (q * 2) 1 x, mul_assoc q 2 x, mul_comm 2 x) (omega arith)

-- a number whose lowest bit is the one with the place k is so many times the next power, and that bit
split_at : (a k : ℕ) → bit_at a k ≡ 1 → a % 2 ^ k ≡ 0 → a ≡ a / 2 ^ k / 2 * 2 ^ (k + 1) + 2 ^ k
split_at a k one none =
    let whole : a / 2 ^ k * 2 ^ k + a % 2 ^ k ≡ a = shr_split a k in
    let odd : a / 2 ^ k ≡ a / 2 ^ k / 2 * 2 + 1 = omega (arith, one) in
    let power : 2 ^ (k + 1) ≡ 2 ^ k * 2 = pow-add 2 k 1 in
    omega (arith, whole, none) ∙ times (a / 2 ^ k / 2) (2 ^ k) (a / 2 ^ k) (2 ^ (k + 1)) odd power

both_halves : (q k : ℕ) → bit_and (q * 2 ^ (k + 1) + 2 ^ k) (q * 2 ^ (k + 1) + (2 ^ k - 1)) ≡ q * 2 ^ (k + 1)
both_halves q k =
    let power : 2 ^ (k + 1) ≡ 2 ^ k * 2 = pow-add 2 k 1 in
    let some : 0 < 2 ^ k = pow_pos k in
    let low : bit_and (2 ^ k) (2 ^ k - 1) ≡ 0 = and_mask (2 ^ k) k ∙ mod_self (2 ^ k) in
    and_block (k + 1) q q (2 ^ k) (2 ^ k - 1) (omega (arith, power, some)) (omega (arith, power, some)) ∙ (ap (λ (x : ℕ). x * 2 ^ (k + 1) + bit_and (2 ^ k) (2 ^ k - 1)) (and_self q) ∙ (omega (arith, low)))

-- to take 1 away and keep the common bits takes the lowest bit away, and no other
lowest_away : (a k : ℕ) → a < 2 ^ 64 → k < 64 → bit_at a k ≡ 1 → ((i : ℕ) → i < k → bit_at a i ≡ 0) → bit_and a (a - 1) ≡ bit_and a (bit_not w64 (1 * 2 ^ k % 2 ^ 64))
lowest_away a k small below one none =
    let q = a / 2 ^ k / 2 in
    let parts : a ≡ q * 2 ^ (k + 1) + 2 ^ k = split_at a k one (no_lower a k none) in
    let some : 0 < 2 ^ k = pow_pos k in
    let less : a - 1 ≡ q * 2 ^ (k + 1) + (2 ^ k - 1) = omega (arith, parts, some) in
    let left : bit_and a (a - 1) ≡ q * 2 ^ (k + 1) = ap (bit_and a) less ∙ (ap (λ (x : ℕ). bit_and x (q * 2 ^ (k + 1) + (2 ^ k - 1))) parts ∙ both_halves q k) in
    let bit : 1 * 2 ^ k % 2 ^ 64 ≡ 2 ^ k = one_shl k 64 below in
    let there : bit_and (2 ^ k) a ≡ 2 ^ k = and_comm (2 ^ k) a ∙ (and_pow a k ∙ (ap (λ (x : ℕ). x * 2 ^ k) one ∙ (omega arith))) in
    let without : bit_and (2 ^ 64 - 1 - 2 ^ k) a + bit_and (2 ^ k) a ≡ a = and-not 64 (2 ^ k) a (subst (λ (x : ℕ). x < 2 ^ 64) bit (omega arith)) small in
    let right : bit_and (2 ^ 64 - 1 - 2 ^ k) a ≡ q * 2 ^ (k + 1) = omega (arith, without, there, parts) in
    left ∙ (sym right ∙ (and_comm (2 ^ 64 - 1 - 2 ^ k) a ∙ ap (λ (x : ℕ). bit_and a (bit_not w64 x)) (sym bit)))

first_is : (a k : ℕ) → a < 2 ^ 64 → 0 < a → Some k ≡ slice_get (members_of (one_word a)) 0 → k ≡ trailing_zeros w64 a
first_is a k small some first = let e : Some k ≡ Some (trailing_zeros w64 a) = first ∙ sym (lowest_bit a small some) in cc

some_member : (a k : ℕ) → Some k ≡ slice_get (members_of (one_word a)) 0 → 0 < a
some_member a k first = elim (cases_lt 0 a) [
  | inl some ↦ some
  | inr none ↦ (let e : None ≡ Some k = no_bits a (omega (arith, none)) ∙ sym first in cc)
]

pub less_one : (a k : ℕ) → a < 2 ^ 64 → k < 64 → Some k ≡ slice_get (members_of (one_word a)) 0 → members_of (one_word a) ≡ k ∷ members_of (one_word (bit_and a (a - 1)))
less_one a k small below first =
    let some : 0 < a = some_member a k first in
    let is : k ≡ trailing_zeros w64 a = first_is a k small some first in
    let bits = bit_at-trailing_zeros w64 a some small in
    let one : bit_at a k ≡ 1 = ap (bit_at a) is ∙ bits.1 in
    let none : (i : ℕ) → i < k → bit_at a i ≡ 0 = λ i u. bits.2 i (omega (arith, u, is)) in
    lowest_split a k (bit_and a (a - 1)) below first (lowest_away a k small below one none)

pub at_least_one : (a k : ℕ) → Some k ≡ slice_get (members_of (one_word a)) 0 → 1 ≤ a
at_least_one a k first = omega (arith, some_member a k first)
