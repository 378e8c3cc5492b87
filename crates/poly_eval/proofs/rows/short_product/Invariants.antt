use Rattle.std.proofs.Common.{◌≡◌, ℕ, Bool, ℤ}
use Rattle.poly_terms.specs.Worth.{worth, as_bit}
use Rattle.poly_terms.specs.Fits.{Fits}
use Rattle.poly_eval.specs.Bits.{Tells, none_of}
use Rattle.poly_eval.proofs.rows.short_product.Given as goal

abbrev pub invariant-loop-bit : goal.invariant-loop-bit
invariant-loop-bit l = (v : ℕ → ℤ) (f : ℕ → Bool) → Fits l.table v → Tells v l.row f → as_bit (none_of l.bit-index f) ≡ worth v l.all.items
