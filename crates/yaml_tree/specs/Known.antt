-- The keys of a map that are known, by codes that are equal exactly where keys are the same.
use Rattle.std.specs.Prelude.{◌≡◌, ℕ, ◌+◌, List, [], ◌∷◌, ◌++◌, map}
use Rattle.std.specs.List.{list_any, concat}
use Rattle.std.specs.Str.{bytes_eq}
use Rattle.yaml_tree.specs.Keys.{stands_before, DeepPlace, deep_step, deep_pair_step}
use Rattle.yaml_tree.specs.declared.keys.Keys.{Keys}
use Rattle.yaml_tree.specs.declared.tree.Tree.{Tree}
use Rattle.yaml_tree.specs.declared.tree.Tree as trees
use Rattle.yaml_tree.specs.declared.tree.Pair.{Pair}
use Rattle.yaml_tree.specs.declared.tree.Pair as pairs

-- A number for the kind of a node, then its parts, then 0. The code of a part begins with another number than 0.
abbrev pub code_of : (kind : ℕ) → List (List ℕ) → List ℕ
code_of kind parts = kind ∷ (concat parts ++ 0 ∷ [])

-- the part of a scalar that a byte is
abbrev pub byte_code : ℕ → List ℕ
byte_code byte = (byte + 1) ∷ []

abbrev pub code_step : trees.Tree-F (List ℕ) (List ℕ) → List ℕ
code_step (trees.Tree-F.Scalar at text) = code_of 1 (map byte_code text)
code_step (trees.Tree-F.List at items) = code_of 2 items
code_step (trees.Tree-F.Map at entries) = code_of 3 entries

abbrev pub pair_code_step : pairs.Pair-F (List ℕ) (List ℕ) → List ℕ
pair_code_step pair = pair.key ++ pair.value

abbrev pub key_code : Tree → List ℕ
key_code = trees.fold-Tree (List ℕ) (List ℕ) code_step pair_code_step

abbrev pub pair_code : Pair → List ℕ
pair_code = pairs.fold-Pair (List ℕ) (List ℕ) code_step pair_code_step

-- ---- the keys of entries

-- These are the keys of the entries.
abbrev pub Knows : Keys → List Pair → Type 0
Knows keys entries = (key : Tree) → list_any (λ v. bytes_eq (key_code key) v.items) keys.codes.keys ≡ stands_before key entries

-- the first node of an entry for which no level is left
abbrev pub deep_pair : Pair → DeepPlace
deep_pair = pairs.fold-Pair DeepPlace DeepPlace deep_step deep_pair_step
