use Rattle.std.proofs.Common.{◌≡◌, ℕ, true, false, [], Some, slice_get}
use Rattle.dp_model.specs.declared.parts.BaseCase.{BaseCase}
use Rattle.dp_model.specs.declared.parts.PlainState.{PlainState}
use Rattle.wide_steps.specs.Steps.{all_hold}
use Rattle.honest_states.specs.Modes.{in_mode}
use Rattle.honest_steps.specs.Views.{Sees}
use Rattle.honest_steps.proofs.inside.where_open.Given as goal

abbrev pub invariant-loop-case : goal.invariant-loop-case
invariant-loop-case l =
    (s x : PlainState) → Sees l.model l.view s x → in_mode l.mode s ≡ true → ((i : ℕ) (b : BaseCase) → slice_get l.cases i ≡ Some b → all_hold l.model x [] b.conditions ≡ false) → in_mode l.left s ≡ true
