use Rattle.std.proofs.Common.{◌≡◌, ◌≤◌, ◌+◌, ◌-◌, length, string_bytes}
use denote.Text.{Utf8}
use denote.Shadow.{shadow}
use Rattle.yaml_tree.specs.Scalars.{double_text}
use Rattle.yaml_tree.proofs.ScalarTexts.{with_front}
use Rattle.yaml_tree.proofs.quoted.inner.double_text.Given as goal

abbrev pub invariant-loop-part : goal.invariant-loop-part
invariant-loop-part l = record {
  utf8 : shadow (Utf8 l.left);
  shorter : length l.left ≤ length l.inner;
  text : double_text 1 l.inner ≡ with_front (string_bytes l.text) (double_text (1 + (length l.inner - length l.left)) l.left);
}

abbrev pub decreases-loop-part : goal.decreases-loop-part
decreases-loop-part l = length l.left
