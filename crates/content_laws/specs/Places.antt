-- Keys of cells, and the place of a cell in its table.
use Rattle.std.specs.Prelude.{◌≡◌, ◌↔◌, ℕ, List, [], ◌∷◌, Some, Ok, ⊤}
use Rattle.dp_model.specs.Evaluation.{place_from}
use Rattle.yaml_tree.specs.declared.tree.Tree.{Tree}
use Rattle.dypdl_nodes.specs.Scalars.{index_of}
use Rattle.dypdl_data.specs.Cells.{key_items, place_of}

-- these scalars are members of object types with these counts, each one of them
abbrev pub AreMembers : (counts : List ℕ) → List Tree → List ℕ → Type 0
AreMembers [] [] [] = ⊤
AreMembers (count ∷ counts) (item ∷ items) (k ∷ ks) = (index_of count item ≡ Ok k) × AreMembers counts items ks
AreMembers counts items ks = ⊥

-- the key is the list of these members, or one of them alone
pub record IsKey (counts : List ℕ) (key : Tree) (ks : List ℕ) : Type 0 where
  pub items : List Tree
  pub are_items : key_items key ≡ Some items
  pub are_members : AreMembers counts items ks

-- The place that a text's key gets is the place that an expression reads with the members that it names.
abbrev pub LawPlace : Type 0
LawPlace =
    (counts : List ℕ) (key : Tree) (at : ℕ)
    → (place_of counts key ≡ Ok at) ↔ ((ks : List ℕ) × IsKey counts key ks × (at ≡ place_from 0 counts ks))
