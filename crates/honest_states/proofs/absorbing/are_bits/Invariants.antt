use Rattle.std.proofs.Common.{◌≡◌, ℕ, ◌<◌, ℤ, Some, slice_get}
use Rattle.poly_terms.specs.Fits.{Fits, IsBit}
use Rattle.honest_states.proofs.absorbing.are_bits.Given as goal

abbrev pub invariant-loop-atom : goal.invariant-loop-atom
invariant-loop-atom l = (k : ℕ) (x : ℕ) → k < l.atom-index → slice_get l.atoms k ≡ Some x → (v : ℕ → ℤ) → Fits l.table v → IsBit (v x)
