use Rattle.std.proofs.Common.{◌≡◌, None, drop}
use Rattle.spot_eval.specs.Looks.{best_case}
use Rattle.spot_eval.proofs.looks.best_case.Given as goal

-- what is left decides
abbrev pub invariant-loop-number : goal.invariant-loop-number
invariant-loop-number l = best_case l.model l.s l.number l.best (drop l.number l.model.base_cases) ≡ best_case l.model l.s 0 None l.model.base_cases
