-- Ends of numbers by sums that are at most 0.
use Rattle.std.specs.Prelude.{int_le, int_lt}
use Rattle.std.proofs.Common.{◌≡◌, true, false, Option, Some, None, IfSome, ℤ, pos, negsuc, neg_ℤ, ◌+ℤ◌, ◌-ℤ◌, ◌*ℤ◌, ◌≤ℤ◌, ◌<ℤ◌, refl, ap, ◌∙◌, arith}
use Rattle.std.proofs.Math.IntN.{pred_ℤ-*ℤ, zero-*ℤ}
use Rattle.std.proofs.lemmas.Int.{ints, by_lt_z}
use Rattle.ring_laws.proofs.Ring.{times_add, times_one, times_up}
use Rattle.honest_states.specs.Modes.{is_from}

pub rest_room : (w r k room most : ℤ) → pos 0 ≤ℤ w → w ≡ r +ℤ pos 1 *ℤ k → k ≡ room → room ≡ most → pos 0 ≤ℤ (r +ℤ most)
rest_room w r k room most h e f g = omega (arith, ints, h, e, f, g)

next_le : (e x : ℤ) → e <ℤ x → (e +ℤ pos 1) ≤ℤ x
next_le e x h = omega (arith, ints, h)

from_one : (k : ℤ) → pos 1 ≤ℤ k → pos 0 ≤ℤ k
from_one k h = omega (arith, ints, h)

too_far : (k s r ke kx nx ken : ℤ) → nx ≡ pos 0 -ℤ kx → r ≡ s +ℤ nx → s ≤ℤ pos 0 → pos 0 ≤ℤ (r +ℤ (ke +ℤ (k -ℤ pos 1))) → ken ≡ ke +ℤ k → ken ≤ℤ kx → ⊥
too_far k s r ke kx nx ken a b c d e f = omega (arith, ints, a, b, c, d, e, f)

le_test : (a b : ℤ) → a ≤ℤ b → int_le a b ≡ true
le_test a b h = grind (arith, ints)

less_one_times : (x : ℤ) → negsuc 0 *ℤ x ≡ pos 0 -ℤ x
less_one_times x = let e = pred_ℤ-*ℤ (pos 0) x in let f = zero-*ℤ x in omega (arith, ints, e, f)

-- so many of a number and a rest are at most 0, and the rest is so great that the number is at most this
pub end_is : (k s r m x e : ℤ) → pos 1 ≤ℤ k → r ≡ s +ℤ negsuc 0 *ℤ m → m ≡ k *ℤ x → s ≤ℤ pos 0 → pos 0 ≤ℤ (r +ℤ (k *ℤ e +ℤ (k -ℤ pos 1))) → int_le x e ≡ true
end_is k s r m x e one is many sum room =
    by_lt_z e x
    (λ lt. absurd (too_far k s r (k *ℤ e) (k *ℤ x) (negsuc 0 *ℤ m) (k *ℤ (e +ℤ pos 1)) (less_one_times m ∙ ap (λ (z : ℤ). pos 0 -ℤ z) many) is sum room
    (times_add k e (pos 1) ∙ ap (λ (z : ℤ). k *ℤ e +ℤ z) (times_one k)) (times_up k (e +ℤ pos 1) x (from_one k one) (next_le e x lt))))
    (λ le. le_test x e le)

pub not_below_one : (k : ℤ) → int_lt k (pos 1) ≡ false → pos 1 ≤ℤ k
not_below_one k h = grind (arith, ints)

turned_test : (m n x y : ℤ) → m ≡ neg_ℤ n → y ≡ pos 0 -ℤ x → int_le y n ≡ true → int_le m x ≡ true
turned_test m n x y e f h = grind (arith, ints)

-- what a number is at least, by what its negative is at most
pub turned_from : (r : Option ℤ) (n x y : ℤ) → IfSome r (λ m. m ≡ neg_ℤ n) → y ≡ negsuc 0 *ℤ x → int_le y n ≡ true → is_from r x ≡ true
turned_from None n x y e f h = refl
turned_from (Some m) n x y e f h = turned_test m n x y e (f ∙ less_one_times x) h
