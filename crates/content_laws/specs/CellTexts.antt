-- Cells of tables: what is written for a cell, and what an expression reads there.
use Rattle.std.specs.Prelude.{◌≡◌, ◌⊎◌, ℕ, ◌<◌, List, [], ◌∷◌, map, codes, slice_get, Some, Ok, pos, ⊤}
use Rattle.std.specs.List.{Contains}
use Rattle.dp_model.specs.Evaluation.{counts_of, num_value, set_value, cond_value}
use Rattle.dp_model.specs.declared.trees.Num.{Num}
use Rattle.dp_model.specs.declared.trees.Num.TheVariants as nums
use Rattle.dp_model.specs.declared.trees.SetEx.TheVariants as sets
use Rattle.dp_model.specs.declared.trees.Cond.TheVariants as conds
use Rattle.dp_model.specs.declared.parts.TableData.{TableData}
use Rattle.dp_model.specs.declared.parts.PlainState.{PlainState}
use Rattle.dp_model.specs.declared.whole.Model.{Model}
use Rattle.yaml_tree.specs.declared.tree.Tree.{Tree}
use Rattle.yaml_tree.specs.declared.tree.Pair.{Pair}
use Rattle.yaml_tree.specs.Fields.{scalar_text, list_items, map_entries}
use Rattle.dypdl_data.specs.Names.{number_named}
use Rattle.dypdl_data.specs.Tables.{cell_of, heads_of}
use Rattle.dypdl_data.specs.Cells.{kind_of_cells, table_names}
use Rattle.dypdl_data.specs.declared.kinds.Cell.{Cell}
use Rattle.dypdl_data.specs.declared.kinds.Cell.TheVariants.{Number, Truth, Members}
use Rattle.dypdl_data.specs.declared.kinds.TableHead.{TableHead}
use Rattle.dypdl_rules.specs.Expressions.{Reading}
use Rattle.dypdl_load.specs.Meaning.{meaning, parts_of}
use Rattle.content_laws.specs.Entries.{IsOnly}
use Rattle.content_laws.specs.Files.{under_key}
use Rattle.content_laws.specs.Places.{IsKey}

-- members as the arguments of an expression
abbrev pub as_arguments : List ℕ → List Num
as_arguments ks = map (λ k. nums.Fixed (pos k)) ks

-- The expression `(t k1 .. kn)` has this value in every state, whatever parameters are in force.
abbrev pub ReadsAs : Model → (t : ℕ) → (ks : List ℕ) → Cell → Type 0
ReadsAs m t ks (Number n) = (s : PlainState) (given : List ℕ) → num_value m s (nums.Cell t (as_arguments ks)) given ≡ Ok n
ReadsAs m t ks (Truth b) = (s : PlainState) (given : List ℕ) → cond_value m s (conds.Cell t (as_arguments ks)) given ≡ Ok b
ReadsAs m t ks (Members set) = (s : PlainState) (given : List ℕ) → (set_value m s (sets.Cell t (as_arguments ks))).1 given ≡ Ok set

-- In lists as deep as there are arguments each item belongs to the member that counts the items before it.
abbrev pub IsItem : (counts : List ℕ) → Tree → (ks : List ℕ) → (value : Tree) → Type 0
IsItem [] tree [] value = value ≡ tree
IsItem [] tree (k ∷ ks) value = ⊥
IsItem (count ∷ counts) tree [] value = ⊥
IsItem (count ∷ counts) tree (k ∷ ks) value =
    (items : List Tree) × (item : Tree) × (list_items tree ≡ Some items) × (k < count) × (slice_get items k ≡ Some item) × IsItem counts item ks value

-- A map gives values to keys.
abbrev pub IsEntry : (counts : List ℕ) → Tree → (ks : List ℕ) → (value : Tree) → Type 0
IsEntry counts tree ks value = (pair : Pair) × Contains (map_entries tree) pair × IsKey counts pair.key ks × (value ≡ pair.value)

-- Under a table's name stand lists or a map. A table without arguments has one cell, of which the value stands there alone.
abbrev pub IsWritten : (counts : List ℕ) → (under_name : Tree) → (ks : List ℕ) → (value : Tree) → Type 0
IsWritten [] tree ks value = (ks ≡ []) × (value ≡ tree)
IsWritten (count ∷ counts) tree ks value = IsItem (count ∷ counts) tree ks value ⊎ IsEntry (count ∷ counts) tree ks value

-- one member of each object type
abbrev pub AreBelow : (counts : List ℕ) → List ℕ → Type 0
AreBelow [] [] = ⊤
AreBelow (count ∷ counts) (k ∷ ks) = (k < count) × AreBelow counts ks
AreBelow counts ks = ⊥

-- the table of this number is the one of this name
pub record IsTable (m : Model) (name : List ℕ) (t : ℕ) (table : TableData) : Type 0 where
  pub numbered : number_named (table_names m.tables) name ≡ Some t
  pub there : slice_get m.tables t ≡ Some table

-- What `table_values` writes for a cell is what an expression reads there. A name stands there once, since no map of a text
-- has a key twice.
abbrev pub LawGivenCell : Type 0
LawGivenCell =
    (read : Reading) (domain problem : Tree) (m : Model) → meaning read domain problem ≡ Ok (parts_of m)
    → (name : List ℕ) (t : ℕ) (table : TableData) → IsTable m name t table
    → (values : Tree) (given : Pair) → under_key problem (codes "table_values") ≡ Some values → IsOnly (map_entries values) name given
    → (ks : List ℕ) (value : Tree) → IsWritten (counts_of m table.args) given.value ks value
    → (cell : Cell) × (cell_of m.objects (kind_of_cells table.element table.cells) value ≡ Ok cell) × ReadsAs m t ks cell

-- nothing is written for this cell
abbrev pub IsLeft : (problem : Tree) → (name : List ℕ) → (counts ks : List ℕ) → Type 0
IsLeft problem name counts ks =
    (values value : Tree) (given : Pair) → under_key problem (codes "table_values") ≡ Some values
    → Contains (map_entries values) given → scalar_text given.key ≡ Some name → IsWritten counts given.value ks value → ⊥

-- Where nothing is written for a cell, an expression reads the default that the domain gives with the table.
abbrev pub LawDefaultCell : Type 0
LawDefaultCell =
    (read : Reading) (domain problem : Tree) (m : Model) → meaning read domain problem ≡ Ok (parts_of m)
    → (name : List ℕ) (t : ℕ) (table : TableData) → IsTable m name t table
    → (ks : List ℕ) → AreBelow (counts_of m table.args) ks → IsLeft problem name (counts_of m table.args) ks
    → (heads : List TableHead) × (head : TableHead) × (heads_of m.objects m.variables (under_key domain (codes "tables")) ≡ Ok heads)
    × (slice_get heads t ≡ Some head) × ReadsAs m t ks head.default
