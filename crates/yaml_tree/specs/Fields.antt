-- What a node has: its place, its text, its items, and the values of its keys.
use Rattle.std.specs.Prelude.{ℕ, Bool, false, if◌then◌else◌, List, [], ◌∷◌, Option, None, Some}
use Rattle.std.specs.Str.{bytes_eq}
use Rattle.dp_base.specs.declared.place.Place.{Place}
use Rattle.yaml_tree.specs.declared.tree.Tree.{Tree}
use Rattle.yaml_tree.specs.declared.tree.Tree as trees
use Rattle.yaml_tree.specs.declared.tree.Pair.{Pair}

abbrev pub form_place : trees.Tree-F Tree Pair → Place
form_place (trees.Tree-F.Scalar at text) = at
form_place (trees.Tree-F.List at items) = at
form_place (trees.Tree-F.Map at entries) = at

abbrev pub tree_place : Tree → Place
tree_place tree = form_place (trees.out-Tree tree)

abbrev pub form_text : trees.Tree-F Tree Pair → Option (List ℕ)
form_text (trees.Tree-F.Scalar at text) = Some text
form_text (trees.Tree-F.List at items) = None
form_text (trees.Tree-F.Map at entries) = None

-- the text of a scalar
abbrev pub scalar_text : Tree → Option (List ℕ)
scalar_text tree = form_text (trees.out-Tree tree)

abbrev pub form_items : trees.Tree-F Tree Pair → Option (List Tree)
form_items (trees.Tree-F.Scalar at text) = None
form_items (trees.Tree-F.List at items) = Some items
form_items (trees.Tree-F.Map at entries) = None

-- the items of a list
abbrev pub list_items : Tree → Option (List Tree)
list_items tree = form_items (trees.out-Tree tree)

abbrev pub form_entries : trees.Tree-F Tree Pair → List Pair
form_entries (trees.Tree-F.Scalar at text) = []
form_entries (trees.Tree-F.List at items) = []
form_entries (trees.Tree-F.Map at entries) = entries

-- the entries of a map; another node has none
abbrev pub map_entries : Tree → List Pair
map_entries tree = form_entries (trees.out-Tree tree)

abbrev pub is_text : (name : List ℕ) → Option (List ℕ) → Bool
is_text name None = false
is_text name (Some text) = bytes_eq text name

-- the value of the first of these entries whose key is a scalar with this text
abbrev pub value_in : (name : List ℕ) → List Pair → Option Tree
value_in name [] = None
value_in name (pair ∷ pairs) = if is_text name (scalar_text pair.key) then Some pair.value else value_in name pairs
