-- The sides of the greater and of the lesser of two numbers, and what a sum that is shown to be at least 0 says of another.
use Rattle.std.specs.Int.{int_max, int_min}
use Rattle.std.proofs.Common.{◌≡◌, ◌≤ℤ◌, ◌⊎◌, inl, inr, Bool, true, false, ℤ, pos, arith}
use Rattle.std.proofs.lemmas.Int.{ints, clamps, by_lt_z}
use Rattle.poly_terms.specs.Worth.{IsSide}
use Rattle.poly_rules.specs.Sides.{IsExtreme}

-- the first and the second of two numbers are on this side of the greater, or of the lesser
pub side_first : (most : Bool) (a b x : ℤ) → IsExtreme most a b x → IsSide most a x
side_first true a b x e = omega (arith, ints, clamps, e)
side_first false a b x e = omega (arith, ints, clamps, e)

pub side_second : (most : Bool) (a b x : ℤ) → IsExtreme most a b x → IsSide most b x
side_second true a b x e = omega (arith, ints, clamps, e)
side_second false a b x e = omega (arith, ints, clamps, e)

max_cases : (a b x : ℤ) → x ≡ int_max a b → (x ≡ a) ⊎ (x ≡ b)
max_cases a b x e = by_lt_z a b (λ lt. inr (omega (arith, ints, clamps, e, lt))) (λ le. inl (omega (arith, ints, clamps, e, le)))

min_cases : (a b x : ℤ) → x ≡ int_min a b → (x ≡ a) ⊎ (x ≡ b)
min_cases a b x e = by_lt_z a b (λ lt. inl (omega (arith, ints, clamps, e, lt))) (λ le. inr (omega (arith, ints, clamps, e, le)))

-- each of the two numbers is the extreme in one case
pub extreme_cases : (most : Bool) (a b x : ℤ) → IsExtreme most a b x → (x ≡ a) ⊎ (x ≡ b)
extreme_cases true a b x e = max_cases a b x e
extreme_cases false a b x e = min_cases a b x e

pub never_below : (x y : ℤ) → pos 0 ≤ℤ x → x ≤ℤ y → pos 0 ≤ℤ y
never_below x y h k = omega (arith, ints, h, k)
