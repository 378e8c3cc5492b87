use Rattle.std.proofs.Common.{◌≡◌, ℕ, ◌<◌, Some, length, slice_get}
use Rattle.honest_states.specs.declared.mode.Mode.{Mode}
use Rattle.honest_bounds.specs.Steps.{IsShown}
use Rattle.honest_bounds.proofs.asking.is_shown_of_all.Given as goal

abbrev pub invariant-loop-mode : goal.invariant-loop-mode
invariant-loop-mode l = (j : ℕ) (mode : Mode) (g : ℕ) → j < l.mode-index → slice_get l.modes j ≡ Some mode → g < length l.model.dp_ground → IsShown l.model l.modes l.asked mode g
