-- What stands in the files of a model: the values under the keys of a file, and the items of its lists.
use Rattle.std.specs.Prelude.{ℕ, List, [], ◌++◌, Option, None, Some}
use Rattle.yaml_tree.specs.declared.tree.Tree.{Tree}
use Rattle.yaml_tree.specs.Fields.{scalar_text, list_items, map_entries, value_in}

-- the value of a key of a file
abbrev pub under_key : Tree → (name : List ℕ) → Option Tree
under_key file name = value_in name (map_entries file)

-- the text of a scalar, where there is one
abbrev pub word_in : Option Tree → Option (List ℕ)
word_in None = None
word_in (Some tree) = scalar_text tree

abbrev pub or_no_items : Option (List Tree) → List Tree
or_no_items None = []
or_no_items (Some items) = items

-- the items of a list; what is missing or empty has none
abbrev pub items_in : Option Tree → List Tree
items_in None = []
items_in (Some tree) = or_no_items (list_items tree)

-- the items of a key's list in the domain, and then those in the problem
abbrev pub items_of_both : (domain problem : Tree) → (name : List ℕ) → List Tree
items_of_both domain problem name = items_in (under_key domain name) ++ items_in (under_key problem name)
