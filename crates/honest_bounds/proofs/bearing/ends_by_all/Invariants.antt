use Rattle.std.proofs.Common.{◌≡◌, ℕ, ◌<◌, Some, slice_get}
use Rattle.dp_model.specs.declared.parts.BaseCase.{BaseCase}
use Rattle.honest_bounds.specs.Steps.{EndsBy}
use Rattle.honest_bounds.proofs.bearing.ends_by_all.Given as goal

abbrev pub invariant-loop-case : goal.invariant-loop-case
invariant-loop-case l = (i : ℕ) (b : BaseCase) → i < l.case-index → slice_get l.model.base_cases i ≡ Some b → EndsBy l.model l.mode l.ground l.e b
