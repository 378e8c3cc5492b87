use Rattle.std.proofs.Common.{◌≡◌, ◌-◌, length, drop}
use Rattle.std.specs.List.{find}
use Rattle.yaml_tree.specs.BlockScalars.{is_shallow}
use Rattle.yaml_tree.proofs.block_scalar.shallow.Given as goal

abbrev pub invariant-loop-index : goal.invariant-loop-index
invariant-loop-index l = find (is_shallow l.indent) (drop l.index l.content) ≡ find (is_shallow l.indent) l.content

abbrev pub decreases-loop-index : goal.decreases-loop-index
decreases-loop-index l = length l.content - l.index
