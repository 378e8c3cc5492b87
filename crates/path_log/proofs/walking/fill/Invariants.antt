use Rattle.std.proofs.Common.{◌≡◌, List, ℕ, length, reverse, ◌++◌, drop}
use Rattle.path_log.specs.Paths.{LeadsBack}
use Rattle.path_log.proofs.walking.fill.Given as goal

-- what is left of a chain back from the step is as long as the room before this place, and is followed by what is written
abbrev pub invariant-loop-place : goal.invariant-loop-place
invariant-loop-place l = (back : List ℕ) → LeadsBack l.logs.items l.fn.id back → (rest : List ℕ) × LeadsBack l.logs.items l.at rest × (length rest ≡ l.place) × (reverse rest ++ drop l.place l.steps ≡ reverse back)
