-- Trees written as text in block style: entries and items on lines of their own, by indent.
use Rattle.std.specs.Prelude.{◌≡◌, ℕ, zero, suc, ◌+◌, ◌||◌, Bool, true, false, if◌then◌else◌, List, [], ◌∷◌, ◌++◌, map, codes, IsUtf8, not, ◌==◌, Option, None, Some}
use Rattle.std.specs.List.{All, flat_map, list_all}
use Rattle.dp_base.specs.declared.place.Place.{Place}
use Rattle.yaml_tree.specs.Flow.{entry}
use Rattle.yaml_tree.specs.Keys.{same_key}
use Rattle.yaml_tree.specs.Texts.{most_levels, Spells}
use Rattle.yaml_tree.specs.declared.tree.Tree.{Tree}
use Rattle.yaml_tree.specs.declared.tree.Tree as trees
use Rattle.yaml_tree.specs.declared.tree.Tree.TheVariants as made
use Rattle.yaml_tree.specs.declared.tree.Pair.{Pair}
use Rattle.content_laws.specs.Writing.{Style, spaces, written, IsWritable, scalar}

-- How a tree is laid out. A map stands `maps` + 1 columns deeper than its key, a list `lists` columns deeper; `behind` + 1 spaces
-- stand behind `-` and behind the `:` of a key. Lists and maps that pass the test `in_flow` are written in flow style, in one
-- line; and `style` says how that, scalars and keys are written.
pub record Layout : Type 0 where
  pub maps : ℕ
  pub lists : ℕ
  pub behind : ℕ
  pub in_flow : Tree → Bool
  pub style : Style

-- a line: how many spaces lead it, and what stands behind them
abbrev pub Line : Type 0
Line = ℕ × List ℕ

-- ---- which nodes stand where

abbrev pub form_in_line : trees.Tree-F Tree Pair → Bool
form_in_line (trees.Tree-F.Scalar at text) = true
form_in_line (trees.Tree-F.List at []) = true
form_in_line (trees.Tree-F.List at (item ∷ items)) = false
form_in_line (trees.Tree-F.Map at []) = true
form_in_line (trees.Tree-F.Map at (entry ∷ entries)) = false

-- Scalars, empty lists and maps, and those that pass the test are written in one line.
abbrev pub is_in_line : Layout → Tree → Bool
is_in_line l tree = form_in_line (trees.out-Tree tree) || l.in_flow tree

abbrev pub form_depth : Layout → trees.Tree-F Tree Pair → ℕ
form_depth l (trees.Tree-F.Scalar at text) = 0
form_depth l (trees.Tree-F.List at items) = l.lists
form_depth l (trees.Tree-F.Map at entries) = suc l.maps

-- how much deeper a node stands than its key
abbrev pub depth : Layout → Tree → ℕ
depth l tree = form_depth l (trees.out-Tree tree)

-- ---- the lines of a node, whose first one may have more in front

-- lines of which the first one stands behind this, in a line of this indent
abbrev pub behind_front : (indent : ℕ) (front : List ℕ) → List Line → List Line
behind_front indent front [] = []
behind_front indent front (line ∷ lines) = (indent, front ++ line.1) ∷ lines

-- an item: `-`, spaces, and the item's lines, with the column of its first character as indent
abbrev pub item_lines : Layout → (Node : ℕ → Tree → List Line) → (indent : ℕ) → Tree → List Line
item_lines l Node indent item = behind_front indent (45 ∷ spaces (suc l.behind)) (Node (indent + 2 + l.behind) item)

-- an entry: its key and `:`, and its value behind spaces, or on the lines below
abbrev pub value_lines : Layout → (Node : ℕ → Tree → List Line) → (indent : ℕ) (key : List ℕ) (in_line : Bool) → Tree → List Line
value_lines l Node indent key true value = (indent, key ++ 58 ∷ (spaces (suc l.behind) ++ written l.style value)) ∷ []
value_lines l Node indent key false value = (indent, key ++ 58 ∷ []) ∷ Node (indent + depth l value) value

abbrev pub entry_lines : Layout → (Node : ℕ → Tree → List Line) → (indent : ℕ) → Pair → List Line
entry_lines l Node indent pair = value_lines l Node indent (written l.style pair.key) (is_in_line l pair.value) pair.value

abbrev pub form_lines : Layout → (Node : ℕ → Tree → List Line) → (indent : ℕ) → trees.Tree-F Tree Pair → List Line
form_lines l Node indent (trees.Tree-F.Scalar at text) = []
form_lines l Node indent (trees.Tree-F.List at items) = flat_map (item_lines l Node indent) items
form_lines l Node indent (trees.Tree-F.Map at entries) = flat_map (entry_lines l Node indent) entries

-- the lines of a tree of at most so many levels
unfoldable pub block_lines : Layout → (levels indent : ℕ) → Tree → List Line
block_lines l zero indent tree = []
block_lines l (suc levels) indent tree =
    if is_in_line l tree then (indent, written l.style tree) ∷ [] else form_lines l (block_lines l levels) indent (trees.out-Tree tree)

-- ---- what may stand round these lines

-- a line without content: spaces, and then nothing or a comment
pub record Note : Type 0 where
  pub lead : ℕ
  pub comment : Option (List ℕ)

-- What is added to a text: a byte order mark in front; a line `---` first, with notes before it; notes before a line, by the
-- number of lines before that; and line ends with a carriage return.
pub record Dress : Type 0 where
  pub mark : Bool
  pub start : Option (List Note)
  pub notes : ℕ → List Note
  pub returns : Bool

pub data Piece : Type 0 where
  Content : Line → Piece
  Remark : Note → Piece

abbrev pub note_end : Option (List ℕ) → List ℕ
note_end None = []
note_end (Some comment) = 35 ∷ comment

abbrev pub piece_body : Piece → List ℕ
piece_body (Content line) = spaces line.0 ++ line.1
piece_body (Remark note) = spaces note.lead ++ note_end note.comment

abbrev pub line_end : (returns : Bool) → List ℕ
line_end true = 13 ∷ 10 ∷ []
line_end false = 10 ∷ []

abbrev pub piece_text : (returns : Bool) → Piece → List ℕ
piece_text returns piece = piece_body piece ++ line_end returns

abbrev pub with_notes : (notes : ℕ → List Note) → (before : ℕ) → List Line → List Piece
with_notes notes before [] = map Remark (notes before)
with_notes notes before (line ∷ lines) = map Remark (notes before) ++ Content line ∷ with_notes notes (suc before) lines

abbrev pub start_lines : Option (List Note) → List Piece
start_lines None = []
start_lines (Some notes) = map Remark notes ++ Content (0, codes "---") ∷ []

abbrev pub pieces : Dress → List Line → List Piece
pieces d lines = start_lines d.start ++ with_notes d.notes 0 lines

abbrev pub byte_order_mark : Bool → List ℕ
byte_order_mark true = 239 ∷ 187 ∷ 191 ∷ []
byte_order_mark false = []

-- The text of a tree in block style.
abbrev pub written_block : Layout → Dress → Tree → List ℕ
written_block l d tree = byte_order_mark d.mark ++ flat_map (piece_text d.returns) (pieces d (block_lines l most_levels 0 tree))

-- Comments are UTF-8 without line feeds and carriage returns.
abbrev pub IsComment : Option (List ℕ) → Type 0
IsComment None = Unit {0}
IsComment (Some comment) = IsUtf8 comment × (list_all (λ (byte : ℕ). not (byte == 10 || byte == 13)) comment ≡ true)

abbrev pub AreNotes : List Note → Type 0
AreNotes notes = All (λ (note : Note). IsComment note.comment) notes

abbrev pub IsStart : Option (List Note) → Type 0
IsStart None = Unit {0}
IsStart (Some notes) = AreNotes notes

abbrev pub IsDress : Dress → Type 0
IsDress d = IsStart d.start × ((before : ℕ) → AreNotes (d.notes before))

-- The text of a tree in block style spells a tree that is the same but for places.
abbrev pub LawBlock : Type 0
LawBlock = (file : ℕ) (l : Layout) (d : Dress) (tree : Tree) → IsDress d → IsWritable tree → (read : Tree) × Spells file (written_block l d tree) read × (same_key tree read ≡ true)

-- It spells no other tree.
abbrev pub LawBlockAlone : Type 0
LawBlockAlone = (file : ℕ) (l : Layout) (d : Dress) (tree : Tree) → IsDress d → IsWritable tree → (read : Tree) → Spells file (written_block l d tree) read → same_key tree read ≡ true

-- ---- how it looks

-- lists of scalars
abbrev pub is_scalar_form : trees.Tree-F Tree Pair → Bool
is_scalar_form (trees.Tree-F.Scalar at text) = true
is_scalar_form (trees.Tree-F.List at items) = false
is_scalar_form (trees.Tree-F.Map at entries) = false

abbrev pub is_short_form : trees.Tree-F Tree Pair → Bool
is_short_form (trees.Tree-F.Scalar at text) = false
is_short_form (trees.Tree-F.List at items) = list_all (λ (item : Tree). is_scalar_form (trees.out-Tree item)) items
is_short_form (trees.Tree-F.Map at entries) = false

abbrev pub is_short : Tree → Bool
is_short tree = is_short_form (trees.out-Tree tree)

-- as models are mostly written
abbrev pub narrow : Layout
narrow = record { maps = 1; lists = 0; behind = 0; in_flow = is_short; style = record { gap = 0; plain = true } }

abbrev pub noted : Dress
noted = record { mark = false; start = None; notes = λ before. if before == 1 then record { lead = 2; comment = Some (codes " steps") } ∷ record { lead = 0; comment = None } ∷ [] else []; returns = false }

-- reduce: min
--   # steps
--
-- transitions:
-- - "#"
-- - name: go
--   cost: (+ cost -1)
--   preconditions: [(= x 3),(> y 0)]
-- target:
--   x: {}
abbrev pub route_tests : Place → Tree
route_tests at = made.List at (scalar at (codes "(= x 3)") ∷ scalar at (codes "(> y 0)") ∷ [])

abbrev pub route_item : Place → Tree
route_item at =
    made.Map at (
    entry (scalar at (codes "name")) (scalar at (codes "go"))
    ∷ entry (scalar at (codes "cost")) (scalar at (codes "(+ cost -1)"))
    ∷ entry (scalar at (codes "preconditions")) (route_tests at) ∷ [])

abbrev pub route : Place → Tree
route at =
    made.Map at (
    entry (scalar at (codes "reduce")) (scalar at (codes "min"))
    ∷ entry (scalar at (codes "transitions")) (made.List at (scalar at (codes "#") ∷ route_item at ∷ []))
    ∷ entry (scalar at (codes "target")) (made.Map at (entry (scalar at (codes "x")) (made.Map at []) ∷ [])) ∷ [])

abbrev pub formal : Dress
formal = record { mark = true; start = Some (record { lead = 0; comment = Some (codes " 1") } ∷ []); notes = λ before. []; returns = true }

-- It may be written, and so it looks; and so a scalar looks with all that may stand round it.
abbrev pub LawBlockSample : Type 0
LawBlockSample = (at : Place) → IsDress noted × IsWritable (route at)
    × (written_block narrow noted (route at) ≡ codes "reduce: min\n  # steps\n\ntransitions:\n- \"#\"\n- name: go\n  cost: (+ cost -1)\n  preconditions: [(= x 3),(> y 0)]\ntarget:\n  x: {}\n")
    × (written_block narrow formal (scalar at (codes "x")) ≡ 239 ∷ 187 ∷ 191 ∷ codes "# 1\r\n---\r\nx\r\n")
