use Rattle.std.proofs.Common.{◌≡◌, ◌++◌, drop}
use Rattle.dp_model.specs.Evaluation.{counts_of}
use Rattle.poly_eval.proofs.tables.table_counts.Given as goal

abbrev pub invariant-loop-object : goal.invariant-loop-object
invariant-loop-object l = l.counts.items ++ counts_of l.model (drop l.object-index l.object-items) ≡ counts_of l.model l.object-items
