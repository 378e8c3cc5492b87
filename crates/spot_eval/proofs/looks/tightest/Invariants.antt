use Rattle.std.proofs.Common.{◌≡◌, None, drop}
use Rattle.spot_eval.specs.Looks.{tightest_at}
use Rattle.spot_eval.proofs.looks.tightest.Given as goal

-- what is left decides
abbrev pub invariant-loop-place : goal.invariant-loop-place
invariant-loop-place l = tightest_at l.model l.s l.place l.best (drop l.place l.model.bounds) ≡ tightest_at l.model l.s 0 None l.model.bounds
