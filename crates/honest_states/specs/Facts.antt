-- What is learned of atoms from a sum that is at most 0.
use Rattle.std.specs.Prelude.{◌≡◌, ℕ, List, slice_get, Some, ℤ, pos, ◌≤ℤ◌}
use Rattle.poly_terms.specs.declared.terms.Term.{Term}
use Rattle.poly_terms.specs.Worth.{worth, as_bit}
use Rattle.honest_states.specs.declared.learning.Settled.{Settled}
use Rattle.honest_states.specs.declared.learning.Told.{Told}

-- a bit has the value that is told
abbrev pub IsSettled : (ℕ → ℤ) → Settled → Type 0
IsSettled v x = v x.atom ≡ as_bit x.value

-- Each bit that is settled has its value, and each sum that is told to be at most 0 is.
pub record AreFacts (v : ℕ → ℤ) (told : Told) : Type 0 where
  pub settled : (k : ℕ) (x : Settled) → slice_get told.settled.items k ≡ Some x → IsSettled v x
  pub at_most_zero : (k : ℕ) (p : List Term) → slice_get told.at_most_zero.items k ≡ Some p → worth v p ≤ℤ pos 0
