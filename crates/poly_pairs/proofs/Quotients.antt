-- What differences of sums say of quotients by one divisor, and of comparisons.
use Rattle.std.specs.Prelude.{int_div, int_le, int_lt, neg_ℤ}
use Rattle.std.proofs.Common.{◌≡◌, ℕ, zero, suc, ◌<◌, ◌*◌, ◌/◌, Bool, true, false, ℤ, pos, negsuc, ◌+ℤ◌, ◌-ℤ◌, ◌*ℤ◌, ◌≤ℤ◌, refl, sym, ap, ◌∙◌, subst, arith}
use Rattle.std.proofs.Math.IntN.{zero-*ℤ}
use Rattle.std.proofs.lemmas.Int.{ints}
use Rattle.std.proofs.lemmas.Nat.{div_below}
use Rattle.ring_laws.proofs.Ring.{add_times, times_add, times_up}
use Rattle.poly_terms.specs.Worth.{as_bit}
use Rattle.quot_laws.proofs.Quotients.{below_law, above_law}

turned : (p q : ℤ) (m : ℕ) → (q +ℤ neg_ℤ (pos m)) ≤ℤ p → q ≤ℤ (p +ℤ pos m)
turned p q m h = omega (arith, ints, h)

back : (x y : ℤ) (k : ℕ) → y ≤ℤ (x +ℤ pos (suc k)) → (y +ℤ negsuc k) ≤ℤ x
back x y k h = omega (arith, ints, h)

back_none : (x y : ℤ) → y ≤ℤ (x +ℤ pos 0) → (y +ℤ pos 0) ≤ℤ x
back_none x y h = omega (arith, ints, h)

positive : (d : ℕ) → pos 1 ≤ℤ pos d → 0 < d
positive d h = omega (arith, ints, h)

no_divisor : (d : ℕ) → pos 1 ≤ℤ negsuc d → ⊥
no_divisor d h = omega (arith, ints, h)

not_to_none : (k : ℕ) → pos (suc k) ≤ℤ pos 0 → ⊥
not_to_none k h = omega (arith, ints, h)

not_from_none : (k : ℕ) → pos 0 ≤ℤ negsuc k → ⊥
not_from_none k h = omega (arith, ints, h)

-- a quotient is at most so much less than another one
pub falls : (p q d g n : ℤ) → pos 1 ≤ℤ d → g ≤ℤ pos 0 → n ≡ d *ℤ g → (q +ℤ n) ≤ℤ p → (int_div q d +ℤ g) ≤ℤ int_div p d
falls p q (pos d) (pos zero) n one low e h = back_none (int_div p (pos d)) (int_div q (pos d)) (below_law p q d 0 (positive d one) (same (subst (λ (z : ℤ). (q +ℤ z) ≤ℤ p) e h)))
  where
    same : (q +ℤ pos (d * 0)) ≤ℤ p → q ≤ℤ (p +ℤ pos (d * 0))
    same k = omega (arith, ints, k)
falls p q (pos d) (pos (suc g)) n one low e h = absurd (not_to_none g low)
falls p q (pos d) (negsuc k) n one low e h = back (int_div p (pos d)) (int_div q (pos d)) k (below_law p q d (suc k) (positive d one) (turned p q (d * suc k) (subst (λ (z : ℤ). (q +ℤ z) ≤ℤ p) e h)))
falls p q (negsuc d) g n one low e h = absurd (no_divisor d one)

-- a quotient is at least so much more than another one that is not below 0
pub rises : (p q d g n : ℤ) → pos 1 ≤ℤ d → pos 0 ≤ℤ g → pos 0 ≤ℤ q → n ≡ d *ℤ g → (q +ℤ n) ≤ℤ p → (int_div q d +ℤ g) ≤ℤ int_div p d
rises p (pos b) (pos d) (pos k) n one up low e h = above_law p b d k (positive d one) (subst (λ (z : ℤ). (pos b +ℤ z) ≤ℤ p) e h)
rises p (pos b) (pos d) (negsuc k) n one up low e h = absurd (not_from_none k up)
rises p (pos b) (negsuc d) g n one up low e h = absurd (no_divisor d one)
rises p (negsuc b) d g n one up low e h = absurd (not_from_none b low)

from_test : (a b : ℤ) → int_le a b ≡ true → a ≤ℤ b
from_test a b h = grind (arith, ints)

le_test : (a b : ℤ) → a ≤ℤ b → int_le a b ≡ true
le_test a b h = grind (arith, ints)

low_chain : (p q : ℤ) → (p +ℤ pos 0) ≤ℤ q → q ≤ℤ pos 0 → p ≤ℤ pos 0
low_chain p q h k = omega (arith, ints, h, k)

bits_above : (g : ℤ) (a b : Bool) → g ≤ℤ pos 0 → (b ≡ true → a ≡ true) → (as_bit b +ℤ g) ≤ℤ as_bit a
bits_above g true true low h = omega (arith, ints, low)
bits_above g true false low h = omega (arith, ints, low)
bits_above g false false low h = omega (arith, ints, low)
bits_above g false true low h = absurd (no (h refl))
  where
    no : false ≡ true → ⊥
    no e = cc

-- a sum that is no greater is at most 0 where the other one is
pub truths : (p q g : ℤ) → g ≤ℤ pos 0 → (p +ℤ pos 0) ≤ℤ q → (as_bit (int_le q (pos 0)) +ℤ g) ≤ℤ as_bit (int_le p (pos 0))
truths p q g low h = bits_above g (int_le p (pos 0)) (int_le q (pos 0)) low (λ e. le_test p (pos 0) (low_chain p q h (from_test q (pos 0) e)))

pub not_below : (x n : ℤ) → int_lt x n ≡ false → n ≤ℤ x
not_below x n h = grind (arith, ints)

pub not_above : (x n : ℤ) → int_lt n x ≡ false → x ≤ℤ n
not_above x n h = grind (arith, ints)

pub above_zero : (x : ℤ) → int_lt (pos 0) x ≡ true → pos 0 ≤ℤ x
above_zero x h = grind (arith, ints)

-- the last number below a divisor has the quotient 0
last_below : (d : ℕ) → d / suc d ≡ 0
last_below d = none (d / suc d) (div_below d (suc d) 1 (omega arith) (omega arith))
  where
    none : (n : ℕ) → n < 1 → n ≡ 0
    none n h = omega (arith, h)

high_from : (x g h z : ℤ) → z ≡ pos 0 → g ≡ neg_ℤ h → (x +ℤ g) ≤ℤ z → x ≤ℤ h
high_from x g h z e f k = omega (arith, ints, e, f, k)

last_quotient : (n d : ℤ) → pos 1 ≤ℤ d → n ≡ d -ℤ pos 1 → int_div n d ≡ pos 0
last_quotient n (pos zero) one e = absurd (omega (arith, ints, one))
last_quotient n (pos (suc d)) one e = ap (λ (z : ℤ). int_div z (pos (suc d))) (e ∙ less d) ∙ ap pos (last_below d)
  where
    less : (k : ℕ) → pos (suc k) -ℤ pos 1 ≡ pos k
    less k = omega (arith, ints)
last_quotient n (negsuc d) one e = absurd (no_divisor d one)

-- a quotient that is at least so much below 0 is at most this
pub to_high : (q n d g h : ℤ) → pos 1 ≤ℤ d → n ≡ d -ℤ pos 1 → g ≡ neg_ℤ h → (q +ℤ g) ≤ℤ int_div n d → q ≤ℤ h
to_high q n d g h one e f k = high_from q g h (int_div n d) (last_quotient n d one e) f k

opposite : (k m : ℤ) → m ≡ neg_ℤ k → k +ℤ m ≡ pos 0
opposite k m e = omega (arith, ints, e)

undone_from : (a b t r : ℤ) → pos 0 ≡ a +ℤ b → r ≡ t +ℤ b → t ≡ r +ℤ a
undone_from a b t r e f = omega (arith, ints, e, f)

-- so many of a number that were taken off
pub undone : (k m x t r : ℤ) → m ≡ neg_ℤ k → r ≡ t +ℤ m *ℤ x → t ≡ r +ℤ k *ℤ x
undone k m x t r e is =
    undone_from (k *ℤ x) (m *ℤ x) t r (sym (zero-*ℤ x) ∙ ap (λ (z : ℤ). z *ℤ x) (sym (opposite k m e)) ∙ add_times k m x) is

apart : (a b t r s : ℤ) → t ≡ r +ℤ b → s ≡ r +ℤ a → t +ℤ a ≡ s +ℤ b
apart a b t r s e f = omega (arith, ints, e, f)

-- so many of one number that were taken off, and of another one that were added
pub both_undone : (m k x y t r s : ℤ) → m ≡ k → t ≡ r +ℤ m *ℤ y → s ≡ r +ℤ m *ℤ x → t +ℤ k *ℤ x ≡ s +ℤ k *ℤ y
both_undone m k x y t r s same e f = apart (k *ℤ x) (k *ℤ y) t r s (subst (λ (z : ℤ). t ≡ r +ℤ z *ℤ y) same e) (subst (λ (z : ℤ). s ≡ r +ℤ z *ℤ x) same f)

below_by : (s t r a b c d : ℤ) → d ≡ a +ℤ b → d ≤ℤ c → t +ℤ a ≡ r +ℤ c → s ≡ r +ℤ b → s ≤ℤ t
below_by s t r a b c d e f g h = omega (arith, ints, e, f, g, h)

-- so many of how much one number is above another, replaced by how much it is at least
pub pair_below : (k l g m t r s : ℤ) → pos 0 ≤ℤ k → (l +ℤ g) ≤ℤ m → t +ℤ k *ℤ l ≡ r +ℤ k *ℤ m → s ≡ r +ℤ k *ℤ g → s ≤ℤ t
pair_below k l g m t r s up gain old new = below_by s t r (k *ℤ l) (k *ℤ g) (k *ℤ m) (k *ℤ (l +ℤ g)) (times_add k l g) (times_up k (l +ℤ g) m up gain) old new
