use Rattle.std.proofs.Common.{◌≡◌, ◌∷◌, ◌++◌, map, drop}
use Rattle.std.specs.List.{concat}
use Rattle.yaml_tree.specs.Known.{byte_code}
use Rattle.yaml_tree.proofs.keys.write_scalar.Given as goal

-- what is written and the codes of what is left
abbrev pub invariant-loop-byte : goal.invariant-loop-byte
invariant-loop-byte l =
    l.code.items ++ concat (map byte_code (drop l.byte-index l.text)) ≡ l.fn.code.items ++ 1 ∷ concat (map byte_code l.text)
