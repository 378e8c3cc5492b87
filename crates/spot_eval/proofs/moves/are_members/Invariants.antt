use Rattle.std.proofs.Common.{◌≡◌, drop}
use Rattle.dp_steps.specs.States.{are_members}
use Rattle.spot_eval.proofs.moves.are_members.Given as goal

-- what is left decides
abbrev pub invariant-loop-place : goal.invariant-loop-place
invariant-loop-place l = are_members l.s (drop l.place l.params) (drop l.place l.args) ≡ are_members l.s l.params l.args
