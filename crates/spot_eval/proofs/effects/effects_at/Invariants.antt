use Rattle.std.proofs.Common.{◌≡◌, ◌++◌, Ok, drop}
use Rattle.dp_base.specs.Results.{◌>>=◌}
use Rattle.spot_eval.specs.Moves.{effects_at}
use Rattle.spot_eval.proofs.effects.effects_at.Given as goal

-- what is left decides
abbrev pub invariant-loop-place : goal.invariant-loop-place
invariant-loop-place l = (effects_at l.model l.s l.number l.args l.place (drop l.place l.effects) >>= λ more. Ok (l.changes.items ++ more)) ≡ effects_at l.model l.s l.number l.args 0 l.effects
