use Rattle.std.proofs.Common.{◌≡◌, ℕ, ◌<◌}
use Rattle.std.specs.Prelude.{slice_get, Some}
use Rattle.dp_model.specs.declared.parts.Effect.{Effect}
use Rattle.eval_room.specs.Needs.{Serves, effect_fits}
use Rattle.eval_room.proofs.model.effects_need.Given as goal

-- those so far are served
abbrev pub invariant-loop-e : goal.invariant-loop-e
invariant-loop-e l = (j : ℕ) (x : Effect) → j < l.e-index → slice_get l.e-items j ≡ Some x → Serves (effect_fits l.model l.given x) l.most
