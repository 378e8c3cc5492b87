use Rattle.std.proofs.Common.{◌≡◌, ℕ, true, Some, length, slice_get}
use Rattle.honest_preferences.proofs.choosing.no_preferences.Given as goal

abbrev pub invariant-loop-variable : goal.invariant-loop-variable
invariant-loop-variable l = record {
  many : length l.kept.items ≡ l._variable-index;
  none : (i : ℕ) → slice_get l.kept.items i ≡ Some true → ⊥;
}
