use Rattle.std.proofs.Common.{◌≡◌, ℕ, length, ℤ}
use Rattle.dp_model.specs.Evaluation.{has}
use Rattle.poly_eval.specs.Bits.{Tells}
use Rattle.poly_eval.proofs.rows.row_of.Given as goal

abbrev pub invariant-loop-k : goal.invariant-loop-k
invariant-loop-k l = record { many : length l.row.items ≡ l.k; bits : (v : ℕ → ℤ) → Tells v l.row.items (has l.set) }
