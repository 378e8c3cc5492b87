use Rattle.std.proofs.Common.{◌≡◌, length, string_bytes}
use Rattle.yaml_tree.specs.Scalars.{with_text, added}
use Rattle.yaml_tree.proofs.plain.go_on.Given as goal

abbrev pub invariant-loop-reader : goal.invariant-loop-reader
invariant-loop-reader l =
    with_text (string_bytes l.fn.text) (added l.flow l.least l.fn.reader) ≡ with_text (string_bytes l.text) (added l.flow l.least l.reader)

abbrev pub decreases-loop-reader : goal.decreases-loop-reader
decreases-loop-reader l = length l.reader.below
