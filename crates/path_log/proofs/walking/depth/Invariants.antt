use Rattle.std.proofs.Common.{◌≡◌, List, ℕ, length, ◌+◌}
use Rattle.path_log.specs.Paths.{LeadsBack}
use Rattle.path_log.proofs.walking.depth.Given as goal

-- a chain back from the step is as long as what was counted and what is left of it from here
abbrev pub invariant-loop-count : goal.invariant-loop-count
invariant-loop-count l = (back : List ℕ) → LeadsBack l.logs.items l.fn.id back → (rest : List ℕ) × LeadsBack l.logs.items l.at rest × (l.count + length rest ≡ length back)
