-- Bits among atoms.
use Rattle.std.specs.Prelude.{◌≡◌, ℕ, List, slice_get, Some, ℤ}
use Rattle.poly_terms.specs.Fits.{IsBit}

-- these atoms are bits
abbrev pub AreBits : (ℕ → ℤ) → List ℕ → Type 0
AreBits v atoms = (k : ℕ) (atom : ℕ) → slice_get atoms k ≡ Some atom → IsBit (v atom)

-- an atom stands among these
abbrev pub IsAmong : ℕ → List ℕ → Type 0
IsAmong atom atoms = (k : ℕ) × (slice_get atoms k ≡ Some atom)
