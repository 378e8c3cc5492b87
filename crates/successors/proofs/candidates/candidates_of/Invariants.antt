use Rattle.std.proofs.Common.{◌≡◌, map, take}
use Rattle.successors.specs.Candidates.{candidate_of}
use Rattle.successors.proofs.candidates.candidates_of.Given as goal

-- those so far
abbrev pub invariant-loop-number : goal.invariant-loop-number
invariant-loop-number l = l.candidates.items ≡ map (candidate_of l.model) (take l.number-index l.number-items)
