-- Tables as a domain declares them: without the cells that a problem gives.
use Rattle.std.specs.Prelude.{ℕ, ◌+◌, ◌*◌, ◌/◌, Bool, true, false, ◌||◌, nat_le, if◌then◌else◌, List, [], ◌∷◌, ◌++◌, map, max, replicate, codes, Option, None, Some, Ok, pos}
use Rattle.std.specs.List.{sum_by}
use Rattle.std.specs.Str.{bytes_eq}
use Rattle.dp_base.specs.declared.place.Place.{Place}
use Rattle.dp_base.specs.Results.{◌>>=◌, each}
use Rattle.dp_model.specs.Evaluation.{has, members_where}
use Rattle.dp_model.specs.Typing.{type_count, cell_count}
use Rattle.dp_model.specs.declared.parts.ObjectType.{ObjectType}
use Rattle.dp_model.specs.declared.parts.Variable.{Variable}
use Rattle.dp_model.specs.declared.parts.Cells.{Cells}
use Rattle.dp_model.specs.declared.parts.Cells.TheVariants as cells
use Rattle.dp_model.specs.declared.parts.TableData.{TableData}
use Rattle.yaml_tree.specs.declared.tree.Tree.{Tree}
use Rattle.yaml_tree.specs.declared.tree.Pair.{Pair}
use Rattle.yaml_tree.specs.Fields.{tree_place, value_in}
use Rattle.dypdl_nodes.specs.Reads.{Reads, refuse}
use Rattle.dypdl_nodes.specs.Shapes.{items_of, few_items, items_or_none, keyed, needed}
use Rattle.dypdl_nodes.specs.Scalars.{text_of, number_of, truth_of, index_of}
use Rattle.dypdl_data.specs.Names.{new_name}
use Rattle.dypdl_data.specs.Objects.{object_names, known_object}
use Rattle.dypdl_data.specs.Variables.{variable_names, object_at}
use Rattle.dypdl_data.specs.declared.kinds.TypeWord.{TypeWord}
use Rattle.dypdl_data.specs.declared.kinds.TypeWord.TheVariants as words
use Rattle.dypdl_data.specs.declared.kinds.CellKind.{CellKind}
use Rattle.dypdl_data.specs.declared.kinds.CellKind.TheVariants as kinds
use Rattle.dypdl_data.specs.declared.kinds.Cell.{Cell}
use Rattle.dypdl_data.specs.declared.kinds.Cell.TheVariants.{Number, Truth, Members}
use Rattle.dypdl_data.specs.declared.kinds.TableHead.{TableHead}

abbrev pub table_keys : List (List ℕ)
table_keys = codes "name" ∷ codes "type" ∷ codes "args" ∷ codes "object" ∷ codes "default" ∷ []

-- ---- cells

abbrev pub member_step : (count : ℕ) → List ℕ → Tree → Reads (List ℕ)
member_step count done item = index_of count item >>= λ k. Ok (done ++ k ∷ [])

-- a set of members of an object type with this count: one that is named twice counts once
abbrev pub members_of : (count : ℕ) → Tree → Reads (List ℕ)
members_of count tree = items_of tree >>= λ items. each (member_step count) [] items >>= λ named. Ok (members_where count (has named))

-- The value of a cell. Elements may be any whole numbers of a model.
abbrev pub cell_of : List ObjectType → CellKind → Tree → Reads Cell
cell_of objects kinds.Integer tree = number_of tree >>= λ n. Ok (Number n)
cell_of objects kinds.Element tree = number_of tree >>= λ n. Ok (Number n)
cell_of objects kinds.Truth tree = truth_of tree >>= λ b. Ok (Truth b)
cell_of objects (kinds.Set object) tree = members_of (type_count objects object) tree >>= λ set. Ok (Members set)

-- the value of cells that are not given: 0, false or the empty set, where no default is
abbrev pub plain_cell : CellKind → Cell
plain_cell kinds.Integer = Number (pos 0)
plain_cell kinds.Element = Number (pos 0)
plain_cell kinds.Truth = Truth false
plain_cell (kinds.Set object) = Members []

abbrev pub default_of : List ObjectType → CellKind → Option Tree → Reads Cell
default_of objects kind None = Ok (plain_cell kind)
default_of objects kind (Some tree) = cell_of objects kind tree

-- ---- a table's head

abbrev pub type_named : Place → List ℕ → Reads TypeWord
type_named at word =
    if bytes_eq word (codes "integer") then Ok words.Integer
    else (if bytes_eq word (codes "element") then Ok words.Element
    else (if bytes_eq word (codes "bool") || bytes_eq word (codes "boolean") then Ok words.Truth
    else (if bytes_eq word (codes "set") then Ok words.Set
    else (if bytes_eq word (codes "continuous") then refuse 34 at else refuse 50 at))))

abbrev pub type_of : Tree → Reads TypeWord
type_of tree = text_of tree >>= type_named (tree_place tree)

-- what the cells are: only a table of sets needs an object type for them
abbrev pub cell_kind_of : List ObjectType → Place → List Pair → TypeWord → Reads CellKind
cell_kind_of objects at entries words.Integer = Ok kinds.Integer
cell_kind_of objects at entries words.Element = Ok kinds.Element
cell_kind_of objects at entries words.Truth = Ok kinds.Truth
cell_kind_of objects at entries words.Set = object_at objects at entries >>= λ o. Ok (kinds.Set o)

abbrev pub arg_step : List ObjectType → List ℕ → Tree → Reads (List ℕ)
arg_step objects done item = known_object objects item >>= λ o. Ok (done ++ o ∷ [])

-- the object types of a table's arguments
abbrev pub args_of : List ObjectType → Option Tree → Reads (List ℕ)
args_of objects tree = items_or_none 4 tree >>= λ items. each (arg_step objects) [] items

unfoldable pub head_of : List ObjectType → (taken : List (List ℕ)) → Tree → Reads TableHead
head_of objects taken item =
    keyed table_keys item >>= λ entries.
    needed (tree_place item) entries (codes "name") >>= λ name_tree.
    needed (tree_place item) entries (codes "type") >>= λ type_tree.
    new_name taken name_tree >>= λ name.
    type_of type_tree >>= λ word.
    args_of objects (value_in (codes "args") entries) >>= λ args.
    cell_kind_of objects (tree_place item) entries word >>= λ kind.
    default_of objects kind (value_in (codes "default") entries) >>= λ default.
    Ok (record { name = name; args = args; kind = kind; default = default })

abbrev pub head_names : List TableHead → List (List ℕ)
head_names heads = map (λ (h : TableHead). h.name) heads

-- names of object types, variables and tables are different
abbrev pub head_step : List ObjectType → List Variable → List TableHead → Tree → Reads (List TableHead)
head_step objects variables done item =
    head_of objects (object_names objects ++ (variable_names variables ++ head_names done)) item >>= λ h. Ok (done ++ h ∷ [])

-- ---- how large tables are

-- Words of one cell: one for a number or a truth value; for a set one for each two members of its object type, rounded
-- up, and one at least.
abbrev pub words_of_cell : List ObjectType → CellKind → ℕ
words_of_cell objects kinds.Integer = 1
words_of_cell objects kinds.Element = 1
words_of_cell objects kinds.Truth = 1
words_of_cell objects (kinds.Set object) = max 1 ((type_count objects object + 1) / 2)

abbrev pub words_of_head : List ObjectType → TableHead → ℕ
words_of_head objects h = cell_count objects h.args * words_of_cell objects h.kind

-- the tables of a list have no more words together than a model may have
abbrev pub few_words : List ObjectType → Place → List TableHead → Reads (List TableHead)
few_words objects at heads = if nat_le (sum_by (words_of_head objects) heads) 16777216 then Ok heads else refuse 49 at

-- the tables of a list, and whether they are too large at the place of the list
abbrev pub listed_heads : List ObjectType → List Variable → Tree → Reads (List TableHead)
listed_heads objects variables tree =
    few_items 1024 tree >>= λ items. each (head_step objects variables) [] items >>= few_words objects (tree_place tree)

abbrev pub heads_of : List ObjectType → List Variable → Option Tree → Reads (List TableHead)
heads_of objects variables None = Ok []
heads_of objects variables (Some tree) = listed_heads objects variables tree

-- ---- tables all of whose cells have the default

abbrev pub filled : CellKind → ℕ → Cell → Cells
filled kinds.Integer count (Number n) = cells.Numbers (replicate count n)
filled kinds.Element count (Number n) = cells.Numbers (replicate count n)
filled kinds.Truth count (Truth b) = cells.Truths (replicate count b)
filled (kinds.Set object) count (Members set) = cells.Sets object (replicate count set)
filled kind count cell = cells.Numbers []

abbrev pub is_element : CellKind → Bool
is_element kinds.Element = true
is_element kinds.Integer = false
is_element kinds.Truth = false
is_element (kinds.Set object) = false

abbrev pub blank_table : List ObjectType → TableHead → TableData
blank_table objects h = record { name = h.name; args = h.args; element = is_element h.kind; cells = filled h.kind (cell_count objects h.args) h.default }
