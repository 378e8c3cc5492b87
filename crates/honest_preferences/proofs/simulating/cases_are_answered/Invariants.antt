use Rattle.std.proofs.Common.{◌≡◌, ℕ, ◌<◌, Some, slice_get}
use Rattle.dp_model.specs.declared.parts.BaseCase.{BaseCase}
use Rattle.honest_preferences.specs.Parts.{IsAnswered}
use Rattle.honest_preferences.proofs.simulating.cases_are_answered.Given as goal

-- those that were looked at are answered
abbrev pub invariant-loop-case : goal.invariant-loop-case
invariant-loop-case l = (i : ℕ) (b : BaseCase) → i < l.case-index → slice_get l.at.model.now.base_cases i ≡ Some b → IsAnswered l.at.model.now l.at.kept.now l.at.ends.now b
