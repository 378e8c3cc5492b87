use Rattle.std.proofs.Common.{◌≡◌, ◌-◌, ◌++◌, length, drop, string_bytes}
use Rattle.yaml_tree.specs.BlockScalars.{joined}
use Rattle.yaml_tree.proofs.block_scalar.joined.Given as goal

abbrev pub invariant-loop-index : goal.invariant-loop-index
invariant-loop-index l = string_bytes l.text ++ joined l.style l.indent (drop l.index l.content) ≡ joined l.style l.indent l.content

abbrev pub decreases-loop-index : goal.decreases-loop-index
decreases-loop-index l = length l.content - l.index
