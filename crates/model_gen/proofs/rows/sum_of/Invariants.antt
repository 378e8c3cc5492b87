use Rattle.std.proofs.Common.{◌≡◌, ◌+◌, ◌*◌, ◌≤◌, drop}
use Rattle.std.specs.Prelude.{sum}
use Rattle.model_gen.proofs.rows.sum_of.Given as goal

abbrev pub invariant-loop-value : goal.invariant-loop-value
invariant-loop-value l = (l.total + sum (drop l.value-index l.values) ≡ sum l.values) × (l.total ≤ 100 * l.value-index)
