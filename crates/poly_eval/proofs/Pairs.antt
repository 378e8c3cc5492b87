-- Rows of two bits.
use Rattle.std.proofs.Common.{◌≡◌, ℕ, zero, suc, Bool, true, false, not, ◌&&◌, ◌||◌, List, [], ◌∷◌, ℤ, refl, ap, ◌∙◌}
use Rattle.std.proofs.lemmas.Option.{same_Some}
use Rattle.poly_terms.specs.declared.terms.Term.{Term}
use Rattle.poly_terms.specs.Worth.{worth, as_bit}
use Rattle.poly_eval.specs.Bits.{Tells, none_of}

abbrev pub pair_of : Bool → Bool → ℕ → Bool
pair_of a b zero = a
pair_of a b (suc j) = b

pub tells_pair : (v : ℕ → ℤ) (p q : List Term) (a b : Bool) → as_bit a ≡ worth v p → as_bit b ≡ worth v q → Tells v (p ∷ q ∷ []) (pair_of a b)
tells_pair v p q a b e f zero r is = e ∙ ap (worth v) (same_Some p r is)
tells_pair v p q a b e f (suc zero) r is = f ∙ ap (worth v) (same_Some q r is)
tells_pair v p q a b e f (suc (suc j)) r is = absurd (cc)

pub both_pair : (a b : Bool) → (a && b) ≡ none_of 2 (pair_of (not a) (not b))
both_pair true true = refl
both_pair true false = refl
both_pair false true = refl
both_pair false false = refl

pub either_pair : (a b : Bool) → (a || b) ≡ not (none_of 2 (pair_of a b))
either_pair true true = refl
either_pair true false = refl
either_pair false true = refl
either_pair false false = refl
