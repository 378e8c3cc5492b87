-- Nodes that must be lists or maps, and the keys of maps. An empty scalar stands for an empty list and an empty map.
use Rattle.std.specs.Prelude.{ℕ, Bool, if◌then◌else◌, nat_le, List, [], ◌∷◌, length, map, codes, Option, None, Some, Ok}
use Rattle.std.specs.List.{list_any}
use Rattle.std.specs.Str.{bytes_eq}
use denote.Ref.{Bor}
use Rattle.dp_base.specs.declared.place.Place.{Place}
use Rattle.dp_base.specs.Results.{◌>>=◌, each}
use Rattle.yaml_tree.specs.declared.tree.Tree.{Tree}
use Rattle.yaml_tree.specs.declared.tree.Tree as trees
use Rattle.yaml_tree.specs.declared.tree.Pair.{Pair}
use Rattle.yaml_tree.specs.Fields.{tree_place, scalar_text, value_in}
use Rattle.dypdl_nodes.specs.Reads.{Reads, refuse, or_refuse}

-- ---- lists

abbrev pub empty_or : {A : Type 0} → Place → List ℕ → Reads (List A)
empty_or at [] = Ok []
empty_or at (byte ∷ bytes) = refuse 50 at

abbrev pub items_form : trees.Tree-F Tree Pair → Reads (List Tree)
items_form (trees.Tree-F.Scalar at text) = empty_or at text
items_form (trees.Tree-F.List at items) = Ok items
items_form (trees.Tree-F.Map at entries) = refuse 50 at

-- the items of what must be a list
abbrev pub items_of : Tree → Reads (List Tree)
items_of tree = items_form (trees.out-Tree tree)

-- the items of a list of at most so many
abbrev pub few_items : (most : ℕ) → Tree → Reads (List Tree)
few_items most tree = items_of tree >>= λ items. if nat_le (length items) most then Ok items else refuse 49 (tree_place tree)

-- the items of a key's list, none where the key is missing
abbrev pub items_or_none : (most : ℕ) → Option Tree → Reads (List Tree)
items_or_none most None = Ok []
items_or_none most (Some tree) = few_items most tree

-- ---- maps

abbrev pub entries_form : trees.Tree-F Tree Pair → Reads (List Pair)
entries_form (trees.Tree-F.Scalar at text) = empty_or at text
entries_form (trees.Tree-F.List at items) = refuse 50 at
entries_form (trees.Tree-F.Map at entries) = Ok entries

-- the entries of what must be a map
abbrev pub entries_of : Tree → Reads (List Pair)
entries_of tree = entries_form (trees.out-Tree tree)

-- the entries of a key's map, none where the key is missing
abbrev pub entries_or_none : Option Tree → Reads (List Pair)
entries_or_none None = Ok []
entries_or_none (Some tree) = entries_of tree

abbrev pub file_form : trees.Tree-F Tree Pair → Reads (List Pair)
file_form (trees.Tree-F.Scalar at text) = refuse 50 at
file_form (trees.Tree-F.List at items) = refuse 50 at
file_form (trees.Tree-F.Map at entries) = Ok entries

-- the entries of a whole file: an empty scalar is no map here
abbrev pub file_entries : Tree → Reads (List Pair)
file_entries tree = file_form (trees.out-Tree tree)

-- ---- keys

-- the texts that are borrowed
abbrev pub texts : List (Bor (List ℕ)) → List (List ℕ)
texts words = map (λ (word : Bor (List ℕ)). word.now) words

abbrev pub is_among : List (List ℕ) → List ℕ → Bool
is_among words word = list_any (bytes_eq word) words

-- keys of the language that no map may have here
abbrev pub left_out : List (List ℕ)
left_out = codes "base_states" ∷ codes "state_functions" ∷ []

abbrev pub word_key : (known : List (List ℕ)) → Place → Option (List ℕ) → Reads (Unit {0})
word_key known at None = refuse 41 at
word_key known at (Some word) = if is_among known word then Ok tt else (if is_among left_out word then refuse 52 at else refuse 41 at)

abbrev pub key_step : (known : List (List ℕ)) → Unit {0} → Pair → Reads (Unit {0})
key_step known done pair = word_key known (tree_place pair.key) (scalar_text pair.key)

-- these entries, where all keys are known: in the order of the text
abbrev pub known_keys : (known : List (List ℕ)) → List Pair → Reads (List Pair)
known_keys known entries = each (key_step known) tt entries >>= λ done. Ok entries

-- the entries of a map with a table of keys
abbrev pub keyed : (known : List (List ℕ)) → Tree → Reads (List Pair)
keyed known tree = entries_of tree >>= known_keys known

-- the same of a whole file
abbrev pub file_keyed : (known : List (List ℕ)) → Tree → Reads (List Pair)
file_keyed known tree = file_entries tree >>= known_keys known

-- the value of a key that the map at this place must have
abbrev pub needed : Place → List Pair → (name : List ℕ) → Reads Tree
needed at entries name = or_refuse 40 at (value_in name entries)
