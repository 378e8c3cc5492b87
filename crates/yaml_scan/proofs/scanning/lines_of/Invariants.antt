use Rattle.std.proofs.Common.{◌≡◌, ◌+◌, ◌≤◌, ◌++◌, length}
use Rattle.yaml_scan.specs.Bytes.{cut}
use Rattle.yaml_scan.specs.Lines.{lines_from, lines_of}
use Rattle.yaml_scan.proofs.scanning.lines_of.Given as goal

abbrev pub invariant-loop-rest : goal.invariant-loop-rest
invariant-loop-rest l = record {
  place : l.at + length l.rest ≡ length l.bytes;
  counted : l.number ≤ l.at + 1;
  same : l.lines.items ++ lines_from l.number l.at (cut l.rest) ≡ lines_of l.bytes;
}

abbrev pub decreases-loop-rest : goal.decreases-loop-rest
decreases-loop-rest l = length l.rest
