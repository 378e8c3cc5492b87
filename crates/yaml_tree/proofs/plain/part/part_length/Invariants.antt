use Rattle.std.proofs.Common.{◌<◌, false, length, slice_index}
use Rattle.yaml_tree.specs.Scalars.{run_of}
use Rattle.yaml_tree.proofs.ScalarParts.{TrimmedTo}
use Rattle.yaml_tree.proofs.plain.part.part_length.Given as goal

abbrev pub invariant-loop-end : goal.invariant-loop-end
invariant-loop-end l = record {
  trimmed : TrimmedTo (run_of l.flow false l.here) l.end;
  ascii : l.end < length l.here → slice_index l.here l.end < 128;
}

abbrev pub decreases-loop-end : goal.decreases-loop-end
decreases-loop-end l = l.end
