use Rattle.std.proofs.Common.{◌-◌, length}
use Rattle.eval_room.specs.Needs.{ServesModel}
use Rattle.cert_laws.specs.Checks.{step_fails}
use Rattle.cert_check.specs.Looked.{reached_by}
use Rattle.cert_check.proofs.Clear.{NoneFails}
use Rattle.cert_check.proofs.clauses.others_fail.Given as goal

-- none so far rejects the line
abbrev pub invariant-loop-place : goal.invariant-loop-place
invariant-loop-place g l = NoneFails (step_fails l.looker l.cert l.past.nodes (reached_by l.here)) l.place × ServesModel l.looker (length l.stack)

abbrev pub decreases-loop-place : goal.decreases-loop-place
decreases-loop-place g l = length l.looker.dp_ground - l.place
