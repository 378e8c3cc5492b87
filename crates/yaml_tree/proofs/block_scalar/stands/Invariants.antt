use Rattle.std.proofs.Common.{◌≡◌, ◌-◌, length, drop}
use Rattle.yaml_tree.specs.BlockScalars.{stands}
use Rattle.yaml_tree.proofs.block_scalar.stands.Given as goal

abbrev pub invariant-loop-index : goal.invariant-loop-index
invariant-loop-index l = stands l.indent (drop l.index l.content) ≡ stands l.indent (drop l.from l.content)

abbrev pub decreases-loop-index : goal.decreases-loop-index
decreases-loop-index l = length l.content - l.index
