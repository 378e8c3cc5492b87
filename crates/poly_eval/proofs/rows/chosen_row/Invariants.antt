use Rattle.std.proofs.Common.{◌≡◌, ℕ, Bool, if◌then◌else◌, length, ℤ}
use Rattle.poly_terms.specs.Worth.{worth, as_bit}
use Rattle.poly_terms.specs.Fits.{Fits}
use Rattle.poly_eval.specs.Bits.{Tells}
use Rattle.poly_eval.proofs.rows.chosen_row.Given as goal

abbrev pub invariant-loop-i : goal.invariant-loop-i
invariant-loop-i l = record { many : length l.row.items ≡ l.i; bits : (v : ℕ → ℤ) (held : Bool) (f g : ℕ → Bool) → Fits l.table v → as_bit held ≡ worth v l.c → Tells v l.a f → Tells v l.b g → Tells v l.row.items (λ j. if held then f j else g j) }
