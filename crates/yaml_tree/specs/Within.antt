-- How long the texts of a tree's scalars are.
use Rattle.std.specs.Prelude.{ℕ, Bool, ◌&&◌, IsTrue, nat_le, List, length}
use Rattle.std.specs.List.{list_all}
use Rattle.yaml_tree.specs.declared.tree.Tree.{Tree}
use Rattle.yaml_tree.specs.declared.tree.Tree as trees
use Rattle.yaml_tree.specs.declared.tree.Pair as pairs

abbrev pub all_are : List Bool → Bool
all_are tests = list_all (λ (test : Bool). test) tests

abbrev pub within_step : (most : ℕ) → trees.Tree-F Bool Bool → Bool
within_step most (trees.Tree-F.Scalar at text) = nat_le (length text) most
within_step most (trees.Tree-F.List at items) = all_are items
within_step most (trees.Tree-F.Map at entries) = all_are entries

abbrev pub within_pair_step : pairs.Pair-F Bool Bool → Bool
within_pair_step pair = pair.key && pair.value

-- The text of each scalar of a tree, also of those in keys, has at most so many bytes.
abbrev pub is_within : (most : ℕ) → Tree → Bool
is_within most = trees.fold-Tree Bool Bool (within_step most) within_pair_step

abbrev pub IsWithin : (most : ℕ) → Tree → Type 0
IsWithin most tree = IsTrue (is_within most tree)
