-- A product of bits is a bit, and no greater than each of them.
use Rattle.std.proofs.Common.{◌≡◌, ℕ, zero, suc, List, [], ◌∷◌, slice_get, Some, inl, inr, ℤ, pos, ◌*ℤ◌, ◌≤ℤ◌, refl, sym, ap, ◌∙◌, subst, arith}
use Rattle.std.proofs.Math.IntN.{zero-*ℤ}
use Rattle.std.proofs.lemmas.Int.{ints}
use Rattle.ring_laws.proofs.Ring.{one_times, le_trans}
use Rattle.poly_terms.specs.Worth.{product}
use Rattle.poly_terms.specs.Fits.{IsBit}
use Rattle.honest_states.specs.Bits.{AreBits}

bit_times : (x y : ℤ) → IsBit x → IsBit y → IsBit (x *ℤ y)
bit_times x y (inl e) b = inl (ap (λ (z : ℤ). z *ℤ y) e ∙ zero-*ℤ y)
bit_times x y (inr e) b = subst IsBit (sym (ap (λ (z : ℤ). z *ℤ y) e ∙ one_times y)) b

from_zero : (y : ℤ) → IsBit y → pos 0 ≤ℤ y
from_zero y (inl e) = omega (arith, ints, e)
from_zero y (inr e) = omega (arith, ints, e)

to_one : (y : ℤ) → IsBit y → y ≤ℤ pos 1
to_one y (inl e) = omega (arith, ints, e)
to_one y (inr e) = omega (arith, ints, e)

between : (p a b x : ℤ) → p ≡ a → a ≤ℤ b → x ≡ b → p ≤ℤ x
between p a b x e h f = omega (arith, ints, e, h, f)

same_below : (y : ℤ) → y ≤ℤ y
same_below y = omega (arith, ints)

-- a product of two bits is no greater than the first, and no greater than the second
below_first : (x y : ℤ) → IsBit x → IsBit y → (x *ℤ y) ≤ℤ x
below_first x y (inl e) b = between (x *ℤ y) (pos 0) (pos 0) x (ap (λ (z : ℤ). z *ℤ y) e ∙ zero-*ℤ y) (same_below (pos 0)) e
below_first x y (inr e) b = between (x *ℤ y) y (pos 1) x (ap (λ (z : ℤ). z *ℤ y) e ∙ one_times y) (to_one y b) e

below_second : (x y : ℤ) → IsBit x → IsBit y → (x *ℤ y) ≤ℤ y
below_second x y (inl e) b = between (x *ℤ y) (pos 0) y y (ap (λ (z : ℤ). z *ℤ y) e ∙ zero-*ℤ y) (from_zero y b) refl
below_second x y (inr e) b = between (x *ℤ y) y y y (ap (λ (z : ℤ). z *ℤ y) e ∙ one_times y) (same_below y) refl

bits_product : (v : ℕ → ℤ) (xs : List ℕ) → AreBits v xs → IsBit (product v xs)
bits_product v [] h = inr refl
bits_product v (x ∷ xs) h = bit_times (v x) (product v xs) (h 0 x refl) (bits_product v xs (λ k y e. h (suc k) y e))

same_inside : (x a : ℕ) → Some x ≡ Some a → x ≡ a
same_inside x a e = cc

pub bits_below : (v : ℕ → ℤ) (xs : List ℕ) (k a : ℕ) → AreBits v xs → slice_get xs k ≡ Some a → product v xs ≤ℤ v a
bits_below v [] k a h e = absurd (cc)
bits_below v (x ∷ xs) zero a h e =
    subst (λ (y : ℕ). (v x *ℤ product v xs) ≤ℤ v y) (same_inside x a e) (below_first (v x) (product v xs) (h 0 x refl) (bits_product v xs (λ j y f. h (suc j) y f)))
bits_below v (x ∷ xs) (suc k) a h e =
    le_trans (v x *ℤ product v xs) (product v xs) (v a) (below_second (v x) (product v xs) (h 0 x refl) (bits_product v xs (λ j y f. h (suc j) y f)))
    (bits_below v xs k a (λ j y f. h (suc j) y f) e)
