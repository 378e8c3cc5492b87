use Rattle.std.proofs.Common.{◌≡◌, map, drop}
use Rattle.yaml_tree.specs.Keys.{first_deep, deep_place}
use Rattle.yaml_tree.specs.Known.{deep_pair}
use Rattle.yaml_tree.proofs.keys.+deep.Given as goal

-- what is left decides
abbrev pub invariant-deep_item-loop-item : goal.invariant-deep_item-loop-item
invariant-deep_item-loop-item l =
    first_deep l.levels (map deep_place (drop l.item-index l.items)) ≡ first_deep l.levels (map deep_place l.items)

abbrev pub invariant-deep_entry-loop-entry : goal.invariant-deep_entry-loop-entry
invariant-deep_entry-loop-entry l =
    first_deep l.levels (map deep_pair (drop l.entry-index l.entries)) ≡ first_deep l.levels (map deep_pair l.entries)
