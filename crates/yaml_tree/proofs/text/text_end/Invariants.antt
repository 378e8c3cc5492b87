use Rattle.std.proofs.Common.{◌≡◌, map, drop}
use Rattle.yaml_tree.specs.Rest.{row_of}
use Rattle.yaml_tree.specs.Lines.{end_from}
use Rattle.yaml_tree.specs.Texts.{place_in}
use Rattle.yaml_tree.proofs.text.text_end.Given as goal

abbrev pub invariant-loop-line : goal.invariant-loop-line
invariant-loop-line l = record {
  file_kept : l.end.file ≡ l.file;
  same : end_from l.end (map (row_of l.text) (drop l.line-index l.lines)) ≡ end_from (place_in l.file 1 1) (map (row_of l.text) l.lines);
}
