use Rattle.std.proofs.Common.{◌≡◌, ℕ, ◌<◌, Some, slice_get, true}
use Rattle.honest_preferences.specs.Effects.{IsWithinAt}
use Rattle.honest_preferences.proofs.answering.starts_within.Given as goal

-- no kept variable that was looked at is beyond its end
abbrev pub invariant-loop-v : goal.invariant-loop-v
invariant-loop-v l = (k : ℕ) → k < l.v → slice_get l.at.kept.now k ≡ Some true → IsWithinAt l.at.model.now l.at.ends.now l.at.model.now.target k
