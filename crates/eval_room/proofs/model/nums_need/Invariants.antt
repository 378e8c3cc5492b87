use Rattle.std.proofs.Common.{◌≡◌, ℕ, ◌<◌}
use Rattle.std.specs.Prelude.{slice_get, Some}
use Rattle.dp_model.specs.declared.trees.Num.{Num}
use Rattle.eval_room.specs.Fits.{num_fits}
use Rattle.eval_room.specs.Needs.{Serves}
use Rattle.eval_room.proofs.model.nums_need.Given as goal

-- those so far are served
abbrev pub invariant-loop-n : goal.invariant-loop-n
invariant-loop-n l = (j : ℕ) (x : Num) → j < l.n-index → slice_get l.n-items j ≡ Some x → Serves (num_fits l.model x l.given) l.most
