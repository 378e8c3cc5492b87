use Rattle.std.proofs.Common.{◌≡◌, ◌++◌, length, string_bytes}
use denote.Text.{Utf8}
use denote.Shadow.{shadow}
use Rattle.yaml_tree.specs.Scalars.{single_text}
use Rattle.yaml_tree.proofs.ScalarTexts.{IsSingle}
use Rattle.yaml_tree.proofs.quoted.inner.single_text.Given as goal

abbrev pub invariant-loop-part : goal.invariant-loop-part
invariant-loop-part l = record {
  utf8 : shadow (Utf8 l.left);
  closes : IsSingle l.left;
  text : single_text l.inner ≡ string_bytes l.text ++ single_text l.left;
}

abbrev pub decreases-loop-part : goal.decreases-loop-part
decreases-loop-part l = length l.left
