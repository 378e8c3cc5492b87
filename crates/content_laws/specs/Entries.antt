-- The entry that counts under a name.
use Rattle.std.specs.Prelude.{◌≡◌, ℕ, ◌<◌, List, slice_get, Some}
use Rattle.yaml_tree.specs.declared.tree.Pair.{Pair}
use Rattle.yaml_tree.specs.Fields.{scalar_text}

-- The last of these entries whose key is a scalar with this text. No map of a text has a key twice, so it is the only one.
pub record IsUnder (entries : List Pair) (name : List ℕ) (pair : Pair) : Type 0 where
  pub at : ℕ
  pub there : slice_get entries at ≡ Some pair
  pub named : scalar_text pair.key ≡ Some name
  pub last : (i : ℕ) (other : Pair) → at < i → slice_get entries i ≡ Some other → scalar_text other.key ≡ Some name → ⊥

-- the only one of these entries whose key is a scalar with this text
pub record IsOnly (entries : List Pair) (name : List ℕ) (pair : Pair) : Type 0 where
  pub at : ℕ
  pub there : slice_get entries at ≡ Some pair
  pub named : scalar_text pair.key ≡ Some name
  pub only : (i : ℕ) (other : Pair) → slice_get entries i ≡ Some other → scalar_text other.key ≡ Some name → i ≡ at
