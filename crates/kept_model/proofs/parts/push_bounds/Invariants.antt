use Rattle.std.proofs.Common.{◌≡◌, ◌+◌, ◌++◌, drop}
use Rattle.kept_model.specs.Parts.{bounds_from}
use Rattle.kept_model.proofs.parts.push_bounds.Given as goal

abbrev pub invariant-loop-i : goal.invariant-loop-i
invariant-loop-i l = l.parts.items ++ bounds_from (l.i + 1) l.left (drop l.i l.bounds) ≡ l.initial.parts.items ++ bounds_from 1 l.initial.left l.bounds
