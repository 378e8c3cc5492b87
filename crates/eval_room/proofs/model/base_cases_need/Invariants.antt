use Rattle.std.proofs.Common.{◌≡◌, ℕ, ◌<◌}
use Rattle.std.specs.Prelude.{slice_get, Some}
use Rattle.dp_model.specs.declared.parts.BaseCase.{BaseCase}
use Rattle.eval_room.specs.Needs.{ServesBaseCase}
use Rattle.eval_room.proofs.model.base_cases_need.Given as goal

-- those so far are served
abbrev pub invariant-loop-b : goal.invariant-loop-b
invariant-loop-b l = (j : ℕ) (x : BaseCase) → j < l.b-index → slice_get l.b-items j ≡ Some x → ServesBaseCase l.model x l.most
