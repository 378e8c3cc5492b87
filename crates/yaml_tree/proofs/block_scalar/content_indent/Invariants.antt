use Rattle.std.proofs.Common.{◌≡◌, ◌-◌, length, drop}
use Rattle.yaml_tree.specs.BlockScalars.{content_indent}
use Rattle.yaml_tree.proofs.block_scalar.content_indent.Given as goal

abbrev pub invariant-loop-index : goal.invariant-loop-index
invariant-loop-index l = content_indent (drop l.index l.content) ≡ content_indent l.content

abbrev pub decreases-loop-index : goal.decreases-loop-index
decreases-loop-index l = length l.content - l.index
