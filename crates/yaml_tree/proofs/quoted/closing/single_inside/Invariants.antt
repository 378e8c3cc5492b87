use Rattle.std.proofs.Common.{◌≡◌, ◌≤◌, ◌-◌, ◌+◌, length, drop}
use Rattle.std.specs.Option.{option_map}
use Rattle.yaml_tree.specs.Scalars.{single_quoted}
use Rattle.yaml_tree.proofs.ScalarQuotes.{further}
use Rattle.yaml_tree.proofs.quoted.closing.single_inside.Given as goal

abbrev pub invariant-loop-at : goal.invariant-loop-at
invariant-loop-at l = record {
  within : l.at ≤ length l.bytes + 1;
  same : option_map length (single_quoted l.bytes) ≡ further l.at (single_quoted (drop l.at l.bytes));
}

abbrev pub decreases-loop-at : goal.decreases-loop-at
decreases-loop-at l = length l.bytes + 1 - l.at
