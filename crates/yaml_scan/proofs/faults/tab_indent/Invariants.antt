use Rattle.std.proofs.Common.{◌≡◌, ◌+◌, length}
use Rattle.yaml_scan.specs.Bytes.{cut}
use Rattle.yaml_scan.specs.Faults.{tab_from, tab_indent}
use Rattle.yaml_scan.proofs.faults.tab_indent.Given as goal

abbrev pub invariant-loop-rest : goal.invariant-loop-rest
invariant-loop-rest l = record {
  place : l.at + length l.rest ≡ length l.bytes;
  same : tab_from l.at (cut l.rest) ≡ tab_indent l.bytes;
}

abbrev pub decreases-loop-rest : goal.decreases-loop-rest
decreases-loop-rest l = length l.rest
