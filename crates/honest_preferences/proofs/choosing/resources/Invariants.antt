use Rattle.std.proofs.Common.{◌≡◌, ℕ, true, false, Some, length, slice_get}
use Rattle.dp_model.specs.Typing.{is_without}
use Rattle.dp_model.specs.declared.parts.Variable.{Variable}
use Rattle.honest_preferences.proofs.choosing.resources.Given as goal

abbrev pub invariant-loop-variable : goal.invariant-loop-variable
invariant-loop-variable l = record {
  many : length l.kept.items ≡ l.variable-index;
  named : (i : ℕ) (v : Variable) → slice_get l.kept.items i ≡ Some true → slice_get l.model.variables i ≡ Some v → is_without v.preference ≡ false;
}
