use Rattle.yaml_tree.proofs.BlockLines.{TrimmedTo}
use Rattle.yaml_tree.proofs.block_scalar.trimmed.Given as goal

abbrev pub invariant-loop-count : goal.invariant-loop-count
invariant-loop-count l = TrimmedTo l.content l.count

abbrev pub decreases-loop-count : goal.decreases-loop-count
decreases-loop-count l = l.count
