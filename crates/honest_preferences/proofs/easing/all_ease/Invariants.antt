use Rattle.std.proofs.Common.{◌≡◌, ℕ, ◌<◌, slice_get, Some}
use Rattle.dp_model.specs.declared.trees.Cond.{Cond}
use Rattle.honest_preferences.specs.Signs.{Eases}
use Rattle.honest_preferences.proofs.easing.all_ease.Given as goal

-- each of those that were looked at stays true
abbrev pub invariant-loop-condition : goal.invariant-loop-condition
invariant-loop-condition l = (i : ℕ) (x : Cond) → i < l.condition-index → slice_get l.conditions i ≡ Some x → Eases l.at.model.now l.at.kept.now l.at.ends.now x
