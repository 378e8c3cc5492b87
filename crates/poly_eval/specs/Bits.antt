-- Bits in rows, and what they say of sets.
use Rattle.std.specs.Prelude.{◌≡◌, ℕ, zero, suc, ◌+◌, Bool, true, false, not, ◌&&◌, ◌||◌, if◌then◌else◌, List, [], ◌∷◌, slice_get, Some, ℤ, ⊤}
use Rattle.poly_terms.specs.declared.table.Atom.{Atom}
use Rattle.poly_terms.specs.declared.terms.Term.{Term}
use Rattle.poly_terms.specs.Worth.{worth, as_bit}
use Rattle.poly_terms.specs.Fits.{Fits}
use Rattle.poly_eval.specs.Shows.{AreBits}
use Rattle.poly_eval.specs.declared.junctions.Junction.{Junction}
use Rattle.poly_eval.specs.declared.junctions.Junction.TheVariants.{Both, Either, OnlyFirst, Unlike}

-- a polynomial is worth so much, wherever the atoms have values that they may have
abbrev pub IsWorth : List Atom → List Term → ((ℕ → ℤ) → ℤ) → Type 0
IsWorth table p f = (v : ℕ → ℤ) → Fits table v → worth v p ≡ f v

-- each polynomial of a row is the bit of a test at its place
abbrev pub Tells : (ℕ → ℤ) → List (List Term) → (ℕ → Bool) → Type 0
Tells v row test = (j : ℕ) (p : List Term) → slice_get row j ≡ Some p → as_bit (test j) ≡ worth v p

-- how two truth values are joined
abbrev pub joined_by : Junction → Bool → Bool → Bool
joined_by Both a b = a && b
joined_by Either a b = a || b
joined_by OnlyFirst a b = a && not b
joined_by Unlike a b = if a then not b else b

-- a test holds at none of the first places
abbrev pub none_of : ℕ → (ℕ → Bool) → Bool
none_of zero test = true
none_of (suc n) test = none_of n test && not (test n)

-- at how many of the first places a test holds
abbrev pub many_of : ℕ → (ℕ → Bool) → ℕ
many_of zero test = 0
many_of (suc n) test = many_of n test + (if test n then 1 else 0)

-- a row of bits for each argument of a `sum`, and the set that each of them stands for
abbrev pub AreChoices : (ℕ → ℤ) → List (List (List Term)) → List (List ℕ) → Type 0
AreChoices v [] [] = ⊤
AreChoices v (row ∷ rows) (set ∷ sets) = AreBits v row set × AreChoices v rows sets
AreChoices v [] (set ∷ sets) = ⊥
AreChoices v (row ∷ rows) [] = ⊥
