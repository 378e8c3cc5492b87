use Rattle.std.proofs.Common.{◌≡◌, length}
use Rattle.yaml_tree.specs.Lines.{from_content}
use Rattle.yaml_tree.proofs.BaseReader.{with_below}
use Rattle.yaml_tree.proofs.points.pass_to_content.Given as goal

abbrev pub invariant-loop-row : goal.invariant-loop-row
invariant-loop-row l = record {
  moved : l.reader ≡ with_below l.reader.below l.fn.reader;
  same : from_content l.reader.below ≡ from_content l.fn.reader.below;
}

abbrev pub decreases-loop-row : goal.decreases-loop-row
decreases-loop-row l = length l.reader.below
