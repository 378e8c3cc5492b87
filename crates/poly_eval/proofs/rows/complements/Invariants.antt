use Rattle.std.proofs.Common.{◌≡◌, ℕ, Bool, not, length, ℤ}
use Rattle.poly_eval.specs.Bits.{Tells}
use Rattle.poly_eval.proofs.rows.complements.Given as goal

abbrev pub invariant-loop-bit : goal.invariant-loop-bit
invariant-loop-bit l = record { many : length l.others.items ≡ l.bit-index; bits : (v : ℕ → ℤ) (f : ℕ → Bool) → Tells v l.row f → Tells v l.others.items (λ j. not (f j)) }
