use Rattle.std.proofs.Common.{◌≡◌, ◌≤◌, ◌-◌, length}
use Rattle.dp_base.specs.Results.{each}
use Rattle.spot_eval.specs.Moves.{others_of}
use Rattle.successors.specs.Batches.{BatchFits, empty_batch}
use Rattle.successors.specs.Visits.{with_tested}
use Rattle.successors.proofs.Cases.{from}
use Rattle.successors.proofs.visits.Visitor.push_each.Given as goal

-- what is left decides; each successor so far may be one that is not allowed
abbrev pub invariant-loop-place : goal.invariant-loop-place
invariant-loop-place g l =
    (from l.self.model l.self.visit (others_of l.self.model) l.batch l.place ≡ each (with_tested l.self.model l.self.visit) empty_batch (others_of l.self.model))
    × BatchFits l.self.model l.batch
    × (l.batch.not_allowed ≤ l.place)

abbrev pub decreases-loop-place : goal.decreases-loop-place
decreases-loop-place g l = length l.candidates - l.place
