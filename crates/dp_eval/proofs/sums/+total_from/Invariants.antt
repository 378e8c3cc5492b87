use Rattle.std.proofs.Common.{◌≡◌, ℕ, ◌+ℤ◌, drop, length}
use Rattle.dp_model.specs.Evaluation.{ways}
use Rattle.dp_eval.specs.Places.{IsPlace}
use Rattle.dp_eval.specs.Totals.{total_at}
use Rattle.dp_eval.proofs.Steps.{ways_from}
use Rattle.dp_eval.proofs.sums.+total_from.Given as goal

abbrev pub decreases-total_from : goal.decreases-total_from
decreases-total_from l = length l.choices.now

abbrev pub invariant-loop-member : goal.invariant-loop-member
invariant-loop-member l = (place : ℕ) → IsPlace place l.at → l.total +ℤ total_at l.cells place l.counts (ways_from (drop l.member-index l.member-items) (ways l.choices)) ≡ total_at l.cells place l.counts (ways_from l.member-items (ways l.choices))
