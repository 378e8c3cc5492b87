use Rattle.std.proofs.Common.{◌≡◌, ℕ, ◌<◌}
use Rattle.std.specs.Prelude.{slice_get, Some}
use Rattle.dp_model.specs.declared.parts.Transition.{Transition}
use Rattle.eval_room.specs.Needs.{ServesTransition}
use Rattle.eval_room.proofs.model.transitions_need.Given as goal

-- those so far are served
abbrev pub invariant-loop-t : goal.invariant-loop-t
invariant-loop-t l = (j : ℕ) (x : Transition) → j < l.t-index → slice_get l.t-items j ≡ Some x → ServesTransition l.model x l.most
