use Rattle.std.proofs.Common.{◌≡◌, ℕ, ◌<◌, Some, slice_get}
use Rattle.dp_model.specs.declared.parts.Transition.{Transition}
use Rattle.honest_preferences.specs.Parts.{IsFollowed}
use Rattle.honest_preferences.proofs.simulating.all_are_followed.Given as goal

-- those that were looked at are followed
abbrev pub invariant-loop-t : goal.invariant-loop-t
invariant-loop-t l = (i : ℕ) (t : Transition) → i < l.t-index → slice_get l.at.model.now.transitions i ≡ Some t → IsFollowed l.at.model.now l.at.kept.now l.at.ends.now t
