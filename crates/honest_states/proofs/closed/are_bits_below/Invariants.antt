use Rattle.std.proofs.Common.{◌≡◌, ℕ, ◌<◌, true, List, Some, slice_get}
use Rattle.poly_terms.specs.declared.terms.Term.{Term}
use Rattle.poly_met.specs.Met.{sum_below}
use Rattle.honest_states.proofs.closed.are_bits_below.Given as goal

abbrev pub invariant-loop-bit : goal.invariant-loop-bit
invariant-loop-bit l = (k : ℕ) (p : List Term) → k < l.bit-index → slice_get l.bits k ≡ Some p → sum_below l.n p ≡ true
