use Rattle.std.proofs.Common.{◌≡◌, true}
use Rattle.dp_model.specs.declared.parts.PlainState.{PlainState}
use Rattle.wide_steps.specs.Steps.{all_hold}
use Rattle.honest_states.specs.Modes.{in_mode}
use Rattle.honest_steps.specs.Views.{Sees}
use Rattle.honest_steps.proofs.inside.where_all_hold.Given as goal

abbrev pub invariant-loop-c : goal.invariant-loop-c
invariant-loop-c l = (s x : PlainState) → Sees l.model l.view s x → in_mode l.mode s ≡ true → all_hold l.model x l.given l.conditions ≡ true → in_mode l.left s ≡ true
