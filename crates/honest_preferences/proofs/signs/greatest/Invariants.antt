use Rattle.std.proofs.Common.{ℕ, ◌<◌, pos}
use Rattle.std.specs.Prelude.{◌≤ℤ◌, slice_get, unwrap_or}
use Rattle.honest_preferences.proofs.signs.greatest.Given as goal

-- none of those that were looked at lies above, and neither does 0
abbrev pub invariant-loop-n : goal.invariant-loop-n
invariant-loop-n l = (pos 0 ≤ℤ l.greatest) × ((at : ℕ) → at < l.n-index → unwrap_or (slice_get l.numbers at) (pos 0) ≤ℤ l.greatest)
