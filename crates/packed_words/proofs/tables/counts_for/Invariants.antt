use Rattle.std.proofs.Common.{◌≡◌, ◌++◌, drop}
use Rattle.dp_model.specs.Evaluation.{counts_of}
use Rattle.packed_words.proofs.tables.counts_for.Given as goal

-- the counts so far and those of the object types that are left are all
abbrev pub invariant-loop-object : goal.invariant-loop-object
invariant-loop-object l = l.counts.items ++ counts_of l.model (drop l.object-index l.objects) ≡ counts_of l.model l.objects
