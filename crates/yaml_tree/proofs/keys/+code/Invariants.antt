use Rattle.std.proofs.Common.{◌≡◌, ◌∷◌, ◌++◌, map, drop}
use Rattle.std.specs.List.{concat}
use Rattle.yaml_tree.specs.Known.{key_code, pair_code}
use Rattle.yaml_tree.proofs.keys.+code.Given as goal

-- what is written and the codes of what is left
abbrev pub invariant-write_items-loop-item : goal.invariant-write_items-loop-item
invariant-write_items-loop-item l =
    l.code.items ++ concat (map key_code (drop l.item-index l.items)) ≡ l.fn.code.items ++ 2 ∷ concat (map key_code l.items)

abbrev pub invariant-write_entries-loop-entry : goal.invariant-write_entries-loop-entry
invariant-write_entries-loop-entry l =
    l.code.items ++ concat (map pair_code (drop l.entry-index l.entries)) ≡ l.fn.code.items ++ 3 ∷ concat (map pair_code l.entries)
