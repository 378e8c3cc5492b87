use Rattle.std.proofs.Common.{ℕ, ◌<◌}
use Rattle.honest_bounds.specs.Steps.{IsShown}
use Rattle.honest_bounds.proofs.asking.is_shown_by_all.Given as goal

abbrev pub invariant-loop-place : goal.invariant-loop-place
invariant-loop-place l = (g : ℕ) → g < l.place → IsShown l.model l.modes l.asked l.mode g
