-- Rows of bits.
use Rattle.std.proofs.Common.{◌≡◌, ℕ, zero, suc, ◌+◌, Bool, true, false, not, ◌&&◌, if◌then◌else◌, List, [], ◌∷◌, ◌++◌, length, ℤ, pos, ◌+ℤ◌, ◌*ℤ◌, refl, sym, ap, ◌∙◌, subst, arith, add-one}
use Rattle.std.specs.Prelude.{int_le}
use Rattle.std.proofs.lemmas.Int.{ints}
use Rattle.std.proofs.lemmas.Option.{same_Some}
use Rattle.ring_laws.proofs.Ring.{one_times}
use Rattle.poly_terms.specs.declared.terms.Term.{Term}
use Rattle.poly_terms.specs.Worth.{worth, as_bit}
use Rattle.poly_eval.specs.Bits.{Tells, many_of, none_of}

pub tells_none : (v : ℕ → ℤ) (f : ℕ → Bool) → Tells v [] f
tells_none v f j p e = absurd (cc)

pub tells_more : (v : ℕ → ℤ) (row : List (List Term)) (p : List Term) (f : ℕ → Bool) (i : ℕ) → length row ≡ i → Tells v row f → as_bit (f i) ≡ worth v p → Tells v (row ++ p ∷ []) f
tells_more v [] p f i n t h zero q e = subst (λ (p : List Term). as_bit (f zero) ≡ worth v p) (same_Some p q e) (subst (λ (i : ℕ). as_bit (f i) ≡ worth v p) (sym n) h)
tells_more v [] p f i n t h (suc j) q e = absurd (cc)
tells_more v (x ∷ row) p f i n t h zero q e = t zero q e
tells_more v (x ∷ row) p f zero n t h (suc j) q e = absurd (omega arith)
tells_more v (x ∷ row) p f (suc i) n t h (suc j) q e = tells_more v row p (λ k. f (suc k)) i (omega arith) (λ k. t (suc k)) h j q e

-- one more bit in a sum
pub many_more : (i : ℕ) (f : ℕ → Bool) (old new bit : ℤ) → old ≡ pos (many_of i f) → as_bit (f i) ≡ bit → new ≡ old +ℤ pos 1 *ℤ bit → new ≡ pos (many_of (i + 1) f)
many_more i f old new bit e b h = rw add-one (h ∙ ap (λ (z : ℤ). old +ℤ z) (one_times bit ∙ sym b) ∙ ap (λ (z : ℤ). z +ℤ as_bit (f i)) e ∙ counted (f i)) where
  counted : (b : Bool) → pos (many_of i f) +ℤ as_bit b ≡ pos (many_of i f + (if b then 1 else 0))
  counted true = omega (arith, ints)
  counted false = omega (arith, ints)

and_true : (b : Bool) → b && true ≡ b
and_true true = refl
and_true false = refl

and_false : (b : Bool) → b && false ≡ false
and_false true = refl
and_false false = refl

positive : (n : ℕ) → int_le (pos (n + 1)) (pos 0) ≡ false
positive n = grind (arith, ints)

same_number : (n : ℕ) → int_le (pos (n + 0)) (pos 0) ≡ int_le (pos n) (pos 0)
same_number n = ap (λ (k : ℕ). int_le (pos k) (pos 0)) (omega arith)

last_bit : (n : ℕ) (b all : Bool) → int_le (pos n) (pos 0) ≡ all → int_le (pos (n + (if b then 1 else 0))) (pos 0) ≡ (all && not b)
last_bit n true all e = positive n ∙ sym (and_false all)
last_bit n false all e = same_number n ∙ e ∙ sym (and_true all)

-- the sum of a row is at most 0 where it is 1 nowhere
pub none_is : (n : ℕ) (f : ℕ → Bool) → int_le (pos (many_of n f)) (pos 0) ≡ none_of n f
none_is zero f = refl
none_is (suc n) f = last_bit (many_of n f) (f n) (none_of n f) (none_is n f)

pub chosen_bit : (held x y : Bool) (a b p : ℤ) → as_bit x ≡ a → as_bit y ≡ b → p ≡ (if held then a else b) → as_bit (if held then x else y) ≡ p
chosen_bit true x y a b p e f h = e ∙ sym h
chosen_bit false x y a b p e f h = f ∙ sym h
