use Rattle.std.proofs.Common.{◌≡◌, ℕ, ◌<◌, Some, slice_get}
use Rattle.dp_model.specs.declared.parts.Effect.{Effect}
use Rattle.honest_preferences.specs.Switches.{SetsUpTo}
use Rattle.honest_preferences.proofs.switches.all_set_up_to.Given as goal

-- each that was looked at
abbrev pub invariant-loop-effect : goal.invariant-loop-effect
invariant-loop-effect l = (k : ℕ) (x : Effect) → k < l.effect-index → slice_get l.effects k ≡ Some x → SetsUpTo l.at.model.now l.at.kept.now l.at.ends.now l.v l.limit x
