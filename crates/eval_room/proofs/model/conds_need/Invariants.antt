use Rattle.std.proofs.Common.{◌≡◌, ℕ, ◌<◌}
use Rattle.std.specs.Prelude.{slice_get, Some}
use Rattle.dp_model.specs.declared.trees.Cond.{Cond}
use Rattle.eval_room.specs.Fits.{cond_fits}
use Rattle.eval_room.specs.Needs.{Serves}
use Rattle.eval_room.proofs.model.conds_need.Given as goal

-- those so far are served
abbrev pub invariant-loop-c : goal.invariant-loop-c
invariant-loop-c l = (j : ℕ) (x : Cond) → j < l.c-index → slice_get l.c-items j ≡ Some x → Serves (cond_fits l.model x l.given) l.most
