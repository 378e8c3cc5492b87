-- The cells that a problem gives.
use Rattle.std.specs.Prelude.{ℕ, ◌+◌, ◌*◌, Bool, true, false, not, ◌==◌, if◌then◌else◌, nat_lt, List, [], ◌∷◌, length, map, replicate, get_or, slice_get, slice_set, Option, None, Some, Ok}
use Rattle.dp_base.specs.declared.place.Place.{Place}
use Rattle.dp_base.specs.Results.{◌>>=◌, each}
use Rattle.dp_model.specs.Typing.{type_count}
use Rattle.dp_model.specs.declared.parts.ObjectType.{ObjectType}
use Rattle.dp_model.specs.declared.parts.Variable.{Variable}
use Rattle.dp_model.specs.declared.parts.Cells.{Cells}
use Rattle.dp_model.specs.declared.parts.Cells.TheVariants as cells
use Rattle.dp_model.specs.declared.parts.TableData.{TableData}
use Rattle.yaml_tree.specs.declared.tree.Tree.{Tree}
use Rattle.yaml_tree.specs.declared.tree.Tree as trees
use Rattle.yaml_tree.specs.declared.tree.Pair.{Pair}
use Rattle.yaml_tree.specs.Fields.{tree_place, list_items}
use Rattle.dypdl_nodes.specs.Reads.{Reads, refuse, holds}
use Rattle.dypdl_nodes.specs.Shapes.{items_of, entries_of, entries_or_none}
use Rattle.dypdl_nodes.specs.Scalars.{index_of}
use Rattle.dypdl_data.specs.Names.{known_key}
use Rattle.dypdl_data.specs.Tables.{cell_of, heads_of, blank_table}
use Rattle.dypdl_data.specs.declared.kinds.CellKind.{CellKind}
use Rattle.dypdl_data.specs.declared.kinds.CellKind.TheVariants as kinds
use Rattle.dypdl_data.specs.declared.kinds.Cell.{Cell}
use Rattle.dypdl_data.specs.declared.kinds.Cell.TheVariants.{Number, Truth, Members}

-- ---- keys

abbrev pub key_form : trees.Tree-F Tree Pair → Tree → Option (List Tree)
key_form (trees.Tree-F.Scalar at text) key = Some (key ∷ [])
key_form (trees.Tree-F.List at items) key = Some items
key_form (trees.Tree-F.Map at entries) key = None

-- a scalar is a key of one argument, and a list one of as many as it has items
abbrev pub key_items : Tree → Option (List Tree)
key_items key = key_form (trees.out-Tree key) key

-- The place of a cell in row order, the first argument slowest: from `at`, the place by the arguments before these.
abbrev pub place_by : (at : ℕ) → (counts : List ℕ) → List Tree → Reads ℕ
place_by at [] items = Ok at
place_by at (count ∷ counts) [] = Ok at
place_by at (count ∷ counts) (item ∷ items) = index_of count item >>= λ i. place_by (at * count + i) counts items

abbrev pub place_of_items : (counts : List ℕ) → Place → Option (List Tree) → Reads ℕ
place_of_items counts at None = refuse 50 at
place_of_items counts at (Some items) = if length items == length counts then place_by 0 counts items else refuse 50 at

-- the place of the cell that a key names in a table whose arguments have these counts
abbrev pub place_of : (counts : List ℕ) → Tree → Reads ℕ
place_of counts key = place_of_items counts (tree_place key) (key_items key)

-- ---- cells

-- the kind of a table's cells
abbrev pub kind_of_cells : (element : Bool) → Cells → CellKind
kind_of_cells element (cells.Numbers xs) = if element then kinds.Element else kinds.Integer
kind_of_cells element (cells.Truths xs) = kinds.Truth
kind_of_cells element (cells.Sets object xs) = kinds.Set object

abbrev pub with_cell : Cells → ℕ → Cell → Cells
with_cell (cells.Numbers xs) i (Number n) = cells.Numbers (slice_set xs i n)
with_cell (cells.Truths xs) i (Truth b) = cells.Truths (slice_set xs i b)
with_cell (cells.Sets object xs) i (Members set) = cells.Sets object (slice_set xs i set)
with_cell cells i cell = cells

-- cells, and which of them were given
pub record Filling : Type 0 where
  pub cells : Cells
  pub given : List Bool

abbrev pub filling_step : List ObjectType → (counts : List ℕ) → CellKind → Filling → Pair → Reads Filling
filling_step objects counts kind filling pair =
    place_of counts pair.key >>= λ i.
    holds (not (get_or filling.given i false)) 43 (tree_place pair.key) >>= λ fresh.
    cell_of objects kind pair.value >>= λ cell.
    Ok (record { cells = with_cell filling.cells i cell; given = slice_set filling.given i true })

-- how many cells there are
abbrev pub held_count : Cells → ℕ
held_count (cells.Numbers xs) = length xs
held_count (cells.Truths xs) = length xs
held_count (cells.Sets object xs) = length xs

abbrev pub filled_by : List ObjectType → (counts : List ℕ) → CellKind → Cells → Tree → Reads Cells
filled_by objects counts kind held tree =
    entries_of tree >>= λ entries.
    each (filling_step objects counts kind) (record { cells = held; given = replicate (held_count held) false }) entries >>= λ filling.
    Ok filling.cells

-- ---- cells by lists, as deep as the table has arguments

-- the index of the next item of a list, and the cells so far
pub record Listing : Type 0 where
  pub next : ℕ
  pub cells : Cells

-- what is read into cells, from the place of a cell on
abbrev pub CellsRead : Type 0
CellsRead = (at : ℕ) → Cells → Tree → Reads Cells

-- An item gives the cells of its index, which lie behind those of the indices before it.
abbrev pub item_step : (count : ℕ) → CellsRead → (at : ℕ) → Listing → Tree → Reads Listing
item_step count Inner at listing item =
    holds (nat_lt listing.next count) 44 (tree_place item) >>= λ below.
    Inner (at * count + listing.next) listing.cells item >>= λ held.
    Ok (record { next = listing.next + 1; cells = held })

-- By no more arguments the tree is the cell at a place. By one with this count it is a list, whose items belong to the
-- indices from 0 on, in order; cells of missing items stay. `at` is the place by the arguments before these.
abbrev pub listed : List ObjectType → CellKind → (counts : List ℕ) → CellsRead
listed objects kind [] at held tree = cell_of objects kind tree >>= λ cell. Ok (with_cell held at cell)
listed objects kind (count ∷ counts) at held tree =
    items_of tree >>= λ items.
    each (item_step count (listed objects kind counts) at) (record { next = 0; cells = held }) items >>= λ listing.
    Ok listing.cells

-- a table with arguments is given by a list, or else by a map
abbrev pub listed_or_filled : List ObjectType → (counts : List ℕ) → CellKind → Cells → Tree → Option (List Tree) → Reads Cells
listed_or_filled objects counts kind held tree (Some items) = listed objects kind counts 0 held tree
listed_or_filled objects counts kind held tree None = filled_by objects counts kind held tree

-- A table without arguments has one cell, which is given alone.
abbrev pub cells_given : List ObjectType → (args : List ℕ) → CellKind → Cells → Tree → Reads Cells
cells_given objects [] kind held tree = cell_of objects kind tree >>= λ cell. Ok (with_cell held 0 cell)
cells_given objects (arg ∷ args) kind held tree = listed_or_filled objects (map (type_count objects) (arg ∷ args)) kind held tree (list_items tree)

abbrev pub table_given : List ObjectType → TableData → Tree → Reads TableData
table_given objects t tree = cells_given objects t.args (kind_of_cells t.element t.cells) t.cells tree >>= λ held. Ok (record t { cells = held })

abbrev pub changed_table : List ObjectType → List TableData → ℕ → Tree → Option TableData → Reads (List TableData)
changed_table objects tables i tree None = Ok tables
changed_table objects tables i tree (Some t) = table_given objects t tree >>= λ changed. Ok (slice_set tables i changed)

abbrev pub table_names : List TableData → List (List ℕ)
table_names tables = map (λ (t : TableData). t.name) tables

abbrev pub value_step : List ObjectType → List TableData → Pair → Reads (List TableData)
value_step objects tables pair =
    known_key 30 (table_names tables) pair.key >>= λ i. changed_table objects tables i pair.value (slice_get tables i)

-- the tables with the cells that are given
abbrev pub values_of : List ObjectType → List TableData → Option Tree → Reads (List TableData)
values_of objects tables tree = entries_or_none tree >>= λ entries. each (value_step objects) tables entries

-- the tables that a domain declares, with the cells that a problem gives
abbrev pub tables_of : List ObjectType → List Variable → (declared given : Option Tree) → Reads (List TableData)
tables_of objects variables declared given =
    heads_of objects variables declared >>= λ heads. values_of objects (map (blank_table objects) heads) given
