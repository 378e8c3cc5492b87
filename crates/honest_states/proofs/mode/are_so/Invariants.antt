use Rattle.std.proofs.Common.{◌≡◌, ℕ, ◌<◌, Bool, true, Option, Some, slice_get}
use Rattle.dp_model.specs.Evaluation.{has}
use Rattle.honest_states.specs.Modes.{is_so}
use Rattle.honest_states.proofs.mode.are_so.Given as goal

abbrev pub invariant-loop-j : goal.invariant-loop-j
invariant-loop-j l = (k : ℕ) (x : Option Bool) → k < l.j → slice_get l.members k ≡ Some x → is_so x (has l.set k) ≡ true
