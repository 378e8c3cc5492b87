use Rattle.std.proofs.Common.{◌≡◌, ℕ, ◌<◌, Some, slice_get}
use Rattle.dp_model.specs.declared.trees.Cond.{Cond}
use Rattle.honest_preferences.specs.Switches.{EasesAt}
use Rattle.honest_preferences.proofs.switches.all_ease_at.Given as goal

-- each that was looked at
abbrev pub invariant-loop-c : goal.invariant-loop-c
invariant-loop-c l = (k : ℕ) (x : Cond) → k < l.c-index → slice_get l.conditions k ≡ Some x → EasesAt l.at.model.now l.at.kept.now l.at.ends.now l.v x
