use Rattle.std.proofs.Common.{◌≡◌, filter, drop}
use Rattle.spot_eval.specs.Moves.{first_enabled, goes_before}
use Rattle.spot_eval.proofs.moves.first_before.Given as goal

-- what is left decides
abbrev pub invariant-loop-before : goal.invariant-loop-before
invariant-loop-before l = first_enabled l.model l.s (filter (goes_before l.model l.number) (drop l.before-index l.forced)) ≡ first_enabled l.model l.s (filter (goes_before l.model l.number) l.forced)
