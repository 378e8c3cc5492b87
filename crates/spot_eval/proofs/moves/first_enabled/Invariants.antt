use Rattle.std.proofs.Common.{◌≡◌, drop}
use Rattle.spot_eval.specs.Moves.{first_enabled}
use Rattle.spot_eval.proofs.moves.first_enabled.Given as goal

-- what is left decides
abbrev pub invariant-loop-number : goal.invariant-loop-number
invariant-loop-number l = first_enabled l.model l.s (drop l.number-index l.numbers) ≡ first_enabled l.model l.s l.numbers
