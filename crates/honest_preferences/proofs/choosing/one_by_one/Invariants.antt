use Rattle.std.proofs.Common.{◌≡◌, ℕ, true, Some, length, slice_get}
use Rattle.kept_model.specs.Honesty.{PreferencesHold}
use Rattle.kept_model.specs.Parts.{variables_with}
use Rattle.honest_preferences.proofs.choosing.one_by_one.Given as goal

abbrev pub invariant-loop-place : goal.invariant-loop-place
invariant-loop-place l = record {
  many : length l.kept.items ≡ length l.resources;
  holds : PreferencesHold l.model (variables_with l.kept.items l.model.variables);
  among : (i : ℕ) → slice_get l.kept.items i ≡ Some true → slice_get l.resources i ≡ Some true;
}
