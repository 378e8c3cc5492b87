-- A reader starts at the text's first byte.
use Rattle.std.proofs.Common.{arith}
use Rattle.std.proofs.lemmas.Str.{IsCharBoundary-start}
use Rattle.yaml_tree.proofs.reader.Reader.before.Goals as goal

pub invariant_of-result : goal.invariant_of-result
invariant_of-result c = record {
  short = c.requires.short;
  in_order = omega arith;
  in_text = omega arith;
  columns = omega arith;
  in_lines = omega arith;
  starts = IsCharBoundary-start c.args.text.now c.utf8.text;
  ends = IsCharBoundary-start c.args.text.now c.utf8.text;
  spans = c.requires.spans;
}
