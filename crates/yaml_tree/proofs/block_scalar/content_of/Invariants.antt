use Rattle.std.proofs.Common.{◌≡◌, ◌+◌, ◌-◌, ◌≤◌, length, drop}
use Rattle.std.specs.List.{prefix_len}
use Rattle.yaml_tree.specs.BlockScalars.{in_content}
use Rattle.yaml_tree.proofs.block_scalar.content_of.Given as goal

abbrev pub invariant-loop-count : goal.invariant-loop-count
invariant-loop-count l = record {
  within : l.count ≤ length l.below;
  same : l.count + prefix_len (in_content l.least) (drop l.count l.below) ≡ prefix_len (in_content l.least) l.below;
}

abbrev pub decreases-loop-count : goal.decreases-loop-count
decreases-loop-count l = length l.below - l.count
