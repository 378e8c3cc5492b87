-- Steps of answers that may fail, and of bits.
use Rattle.std.proofs.Common.{◌≡◌, ℕ, Bool, true, false, if◌then◌else◌, List, Result, Ok, Err, IfOk, ℤ, pos, negsuc, ◌+ℤ◌, ◌-ℤ◌, ◌*ℤ◌, refl, sym, ap, ◌∙◌, arith}
use Rattle.std.specs.Prelude.{◌&&◌, int_le, int_div, int_rem}
use Rattle.std.specs.Ordering.{int_eq}
use Rattle.std.proofs.Math.IntN.{pred_ℤ-*ℤ, zero-*ℤ, *ℤ_comm}
use Rattle.std.proofs.lemmas.Int.{ints, quot-rem}
use Rattle.ring_laws.proofs.Ring.{one_times}
use Rattle.poly_terms.specs.declared.table.Atom.{Atom}
use Rattle.poly_terms.specs.Worth.{as_bit}
use Rattle.poly_terms.specs.Fits.{Fits}
use Rattle.poly_eval.specs.Shows.{Extends}

-- what follows of the value of an answer
pub if_ok : {A E : Type 0} (r : Result A E) (P Q : A → Type 0) → IfOk r P → ((x : A) → P x → Q x) → IfOk r Q
if_ok (Ok x) P Q h f = f x h
if_ok (Err e) P Q h f = tt

less : (x y : ℤ) → x +ℤ negsuc 0 *ℤ y ≡ x -ℤ y
less x y = let e = pred_ℤ-*ℤ (pos 0) y in let f = zero-*ℤ y in omega (arith, ints, e, f)

back : (a b : ℤ) → b +ℤ (a -ℤ b) ≡ a
back a b = omega (arith, ints)

plus_zero : (b : ℤ) → b +ℤ pos 0 ≡ b
plus_zero b = omega (arith, ints)

pub chosen_is : (held : Bool) (c a b d q p : ℤ) → as_bit held ≡ c → d ≡ a +ℤ negsuc 0 *ℤ b → q ≡ c *ℤ d → p ≡ b +ℤ pos 1 *ℤ q → p ≡ (if held then a else b)
chosen_is true c a b d q p e di qi pi =
    pi ∙ ap (λ (z : ℤ). b +ℤ z) (one_times q ∙ qi ∙ ap (λ (z : ℤ). z *ℤ d) (sym e) ∙ one_times d ∙ di ∙ less a b) ∙ back a b
chosen_is false c a b d q p e di qi pi =
    pi ∙ ap (λ (z : ℤ). b +ℤ z) (one_times q ∙ qi ∙ ap (λ (z : ℤ). z *ℤ d) (sym e) ∙ zero-*ℤ d) ∙ plus_zero b

both_bits : (x y : Bool) → as_bit x *ℤ as_bit y ≡ as_bit (x && y)
both_bits true true = refl
both_bits true false = refl
both_bits false true = refl
both_bits false false = refl

-- two numbers are the same where each is at most the other
pub same_bits : (a b : ℤ) → as_bit (int_le a b) *ℤ as_bit (int_le b a) ≡ as_bit (int_eq a b)
same_bits a b = both_bits (int_le a b) (int_le b a) ∙ ap as_bit (grind (arith, ints))

-- what fits a table that has grown fits the one before
pub fits_before : (old new : List Atom) (v : ℕ → ℤ) → Extends old new → Fits new v → Fits old v
fits_before old new v more fits k atom is = fits k atom (more k atom is)

pub if_both : {A E : Type 0} (r : Result A E) (P R Q : A → Type 0) → IfOk r P → IfOk r R → ((x : A) → P x → R x → Q x) → IfOk r Q
if_both (Ok x) P R Q h k f = f x h k
if_both (Err e) P R Q h k f = tt

-- what is left of a sum without this many times its quotient
pub rest_is : (a d q t p : ℤ) → q ≡ int_div a d → t ≡ pos 0 +ℤ d *ℤ q → p ≡ a +ℤ negsuc 0 *ℤ t → p ≡ int_rem a d
rest_is a d q t p e f g = left_over t q (d *ℤ q) (int_div a d *ℤ d) (int_rem a d) a p f (ap (λ (z : ℤ). d *ℤ z) e ∙ *ℤ_comm d (int_div a d)) (quot-rem a d) (g ∙ less a t) where
  left_over : (t q m k r a p : ℤ) → t ≡ pos 0 +ℤ m → m ≡ k → k +ℤ r ≡ a → p ≡ a -ℤ t → p ≡ r
  left_over t q m k r a p e f g h = omega (arith, ints, e, f, g, h)

pub extends_on : (old now new : List Atom) → Extends old now → Extends now new → Extends old new
extends_on old now new f g k atom is = g k atom (f k atom is)
