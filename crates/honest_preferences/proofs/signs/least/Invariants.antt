use Rattle.std.proofs.Common.{ℕ, ◌<◌, pos}
use Rattle.std.specs.Prelude.{◌≤ℤ◌, slice_get, unwrap_or}
use Rattle.honest_preferences.proofs.signs.least.Given as goal

-- none of those that were looked at lies below, and neither does 0
abbrev pub invariant-loop-n : goal.invariant-loop-n
invariant-loop-n l = (l.least ≤ℤ pos 0) × ((at : ℕ) → at < l.n-index → l.least ≤ℤ unwrap_or (slice_get l.numbers at) (pos 0))
