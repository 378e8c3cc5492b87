use Rattle.std.proofs.Common.{◌≡◌, ◌++◌, drop}
use Rattle.std.specs.Prelude.{sum}
use Rattle.model_gen.specs.Texts.{rests}
use Rattle.model_gen.proofs.rows.rests.Given as goal

abbrev pub invariant-loop-value : goal.invariant-loop-value
invariant-loop-value l = (l.left ≡ sum (drop l.value-index l.values)) × (l.sums.items ++ rests (drop l.value-index l.values) ≡ rests l.values)
