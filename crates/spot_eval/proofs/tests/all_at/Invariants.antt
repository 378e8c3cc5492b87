use Rattle.std.proofs.Common.{◌≡◌, drop}
use Rattle.spot_eval.specs.Looks.{all_at}
use Rattle.spot_eval.proofs.tests.all_at.Given as goal

-- what is left decides
abbrev pub invariant-loop-place : goal.invariant-loop-place
invariant-loop-place l = all_at l.model l.s l.tests l.args l.place (drop l.place l.conditions) ≡ all_at l.model l.s l.tests l.args 0 l.conditions
