use Rattle.std.proofs.Common.{◌≡◌, ℕ, true, Some, slice_get}
use Rattle.spot_eval.specs.Moves.{is_forced}
use Rattle.honest_steps.proofs.entering.forced_steps.Given as goal

abbrev pub invariant-loop-place : goal.invariant-loop-place
invariant-loop-place l = (k g : ℕ) → slice_get l.numbers.items k ≡ Some g → is_forced l.model g ≡ true
