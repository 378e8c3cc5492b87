use Rattle.std.proofs.Common.{◌≡◌, ◌++◌, drop, length}
use Rattle.model_gen.specs.Texts.{cells_from}
use Rattle.model_gen.proofs.rows.cells.Given as goal

abbrev pub invariant-loop-value : goal.invariant-loop-value
invariant-loop-value l = (length l.texts.items ≡ l.value-index) × (l.texts.items ++ cells_from l.value-index (drop l.value-index l.values) ≡ cells_from 0 l.values)
