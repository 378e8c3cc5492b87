use Rattle.std.proofs.Common.{◌≡◌, ℕ, Bool, length, ℤ}
use Rattle.poly_terms.specs.Fits.{Fits}
use Rattle.poly_eval.specs.Bits.{Tells, joined_by}
use Rattle.poly_eval.proofs.rows.joined_rows.Given as goal

abbrev pub invariant-loop-i : goal.invariant-loop-i
invariant-loop-i l = record { many : length l.row.items ≡ l.i; bits : (v : ℕ → ℤ) (f g : ℕ → Bool) → Fits l.table v → Tells v l.a f → Tells v l.b g → Tells v l.row.items (λ j. joined_by l.op (f j) (g j)) }
