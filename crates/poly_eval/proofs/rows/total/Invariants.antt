use Rattle.std.proofs.Common.{◌≡◌, ℕ, Bool, ℤ, pos}
use Rattle.poly_terms.specs.Worth.{worth}
use Rattle.poly_eval.specs.Bits.{Tells, many_of}
use Rattle.poly_eval.proofs.rows.total.Given as goal

abbrev pub invariant-loop-bit : goal.invariant-loop-bit
invariant-loop-bit l = (v : ℕ → ℤ) (f : ℕ → Bool) → Tells v l.row f → worth v l.sum.items ≡ pos (many_of l.bit-index f)
