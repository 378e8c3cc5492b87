use Rattle.std.proofs.Common.{◌≡◌, true, Option, ℤ}
use Rattle.dp_model.specs.declared.parts.PlainState.{PlainState}
use Rattle.honest_states.specs.Modes.{in_mode}
use Rattle.honest_steps.specs.Moves.{StepsFrom}
use Rattle.honest_steps.proofs.entering.without_all.Given as goal

abbrev pub invariant-loop-number : goal.invariant-loop-number
invariant-loop-number l = (s : PlainState) (weight : Option ℤ) (next : PlainState) → StepsFrom l.model l.mode l.ground s weight next → in_mode l.left s ≡ true
