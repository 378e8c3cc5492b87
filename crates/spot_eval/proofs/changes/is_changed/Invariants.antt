use Rattle.std.proofs.Common.{◌≡◌, drop}
use Rattle.spot_eval.specs.Changes.{is_changed}
use Rattle.spot_eval.proofs.changes.is_changed.Given as goal

-- the changes that are left decide
abbrev pub invariant-loop-change : goal.invariant-loop-change
invariant-loop-change l = is_changed (drop l.change-index l.changes) l.place ≡ is_changed l.changes l.place
