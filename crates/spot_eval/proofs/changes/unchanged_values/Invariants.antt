use Rattle.std.proofs.Common.{◌≡◌, ◌++◌, drop}
use Rattle.spot_eval.specs.Changes.{unchanged_from}
use Rattle.spot_eval.proofs.changes.unchanged_values.Given as goal

-- the values so far and what becomes of those that are left are all
abbrev pub invariant-loop-place : goal.invariant-loop-place
invariant-loop-place l = l.values.items ++ unchanged_from l.changes l.place (drop l.place l.held.items) ≡ unchanged_from l.changes 0 l.held.items
