-- Block forms: lists and maps by indent. A relation says what reading a node at a point gives, as with flow forms. What
-- is left after a node begins with the next line that has content.
use Rattle.std.specs.Prelude.{◌≡◌, ℕ, zero, suc, ◌+◌, ◌-◌, Bool, true, false, not, ◌&&◌, ◌||◌, ◌==◌, if◌then◌else◌, nat_lt, MatchBool, List, [], ◌∷◌, ◌++◌, Option, None, Some, Result, Ok, Err}
use Rattle.dp_base.specs.declared.place.Place.{Place}
use Rattle.yaml_tree.specs.Rest.{Row, Rest, place, on, skip_blanks, front}
use Rattle.yaml_tree.specs.Characters.{is_item, is_colon, is_clear}
use Rattle.yaml_tree.specs.Lines.{is_marker, from_content, settle, end_line}
use Rattle.yaml_tree.specs.Scalars.{plain}
use Rattle.yaml_tree.specs.Openings.{opening, deep_end}
use Rattle.yaml_tree.specs.declared.opening.Opening.{Opening}
use Rattle.yaml_tree.specs.declared.opening.Opening.TheVariants.{Plain, Quoted, FlowList, Header}
use Rattle.yaml_tree.specs.Keys.{stands_before, deep_place}
use Rattle.yaml_tree.specs.Repeats.{Turn, More, Last, Refused, Repeats}
use Rattle.yaml_tree.specs.BlockScalars.{block_scalar}
use Rattle.yaml_tree.specs.Flow.{Outcome, Reading, entry, empty_at, list_made, map_made, Form}
use Rattle.yaml_tree.specs.declared.tree.Tree.{Tree}
use Rattle.yaml_tree.specs.declared.tree.Pair.{Pair}
use Rattle.yaml_tree.specs.declared.tree.YamlEnd.{YamlEnd}
use Rattle.yaml_tree.specs.declared.tree.YamlEnd.TheVariants.{Unread, TwiceKey, TooDeep}

-- what reading a node gives whose lines below need at least this indent
abbrev pub BlockReading : Type 1
BlockReading = (least : ℕ) → Reading

-- ---- scalars and flow forms

abbrev pub settled : Tree → Result Rest YamlEnd → Outcome
settled tree (Ok left) = Ok (tree, left)
settled tree (Err e) = Err e

abbrev pub ended : Outcome → Outcome
ended (Ok x) = settled x.0 (end_line x.1)
ended (Err e) = Err e

-- A whole scalar or flow form, of which the beginning in its line was read: a plain scalar goes on over lines, and the
-- content of a block scalar stands on the lines below.
abbrev pub whole_form : Opening → (least : ℕ) (from : Rest) → Outcome → Outcome
whole_form opening least from (Err e) = Err e
whole_form Plain least from (Ok x) = ended (plain false least from)
whole_form (Header style chomping) least from (Ok x) = block_scalar style chomping least (place from) x.1
whole_form opening least from (Ok x) = ended (Ok x)

-- behind a key, a scalar or flow form that begins in its line
abbrev pub LineValue : (levels least : ℕ) → Reading
LineValue levels least from outcome =
    (begun : Outcome) × Form false true levels from begun × (outcome ≡ whole_form (opening false true from) least from begun)

-- ---- nodes on the lines below a `-` or a `:`

abbrev pub empty_scalar : (levels : ℕ) → Rest → Outcome
empty_scalar zero at = Err (TooDeep (place at))
empty_scalar (suc levels) at = Ok (empty_at at, settle at)

-- Below a block of this indent a node begins in a line with a greater one, and below a key also a list with the same.
abbrev pub begins_below : (indent : ℕ) (lists : Bool) → Row → Bool
begins_below indent lists row = not (is_marker row) && (nat_lt indent row.indent || (lists && row.indent == indent && is_item row.text))

abbrev pub node_in : (indent : ℕ) (lists : Bool) → Rest → List Row → Option Rest
node_in indent lists at [] = None
node_in indent lists at (row ∷ rows) = if begins_below indent lists row then Some (front at row rows) else None

abbrev pub BelowOf : BlockReading → (levels indent : ℕ) → Rest → Option Rest → Outcome → Type 0
BelowOf Node levels indent at (Some from) outcome = Node (indent + 1) from outcome
BelowOf Node levels indent at None outcome = outcome ≡ empty_scalar levels at

-- the node below a `-` or a `:`, or else the empty scalar
abbrev pub Below : BlockReading → (levels indent : ℕ) (lists : Bool) → Reading
Below Node levels indent lists at outcome = BelowOf Node levels indent at (node_in indent lists at (from_content at.below)) outcome

-- ---- lists

-- behind the `-` of an item: a node in the same line, or one below
abbrev pub Item : BlockReading → (levels indent : ℕ) → Reading
Item Node levels indent at outcome = MatchBool (is_clear at.here)
    (Below Node levels indent false at outcome)
    (Node (indent + 1) (skip_blanks at) outcome)

abbrev pub item_in : (indent : ℕ) → Rest → List Row → Option Rest
item_in indent left [] = None
item_in indent left (row ∷ rows) = if not (is_marker row) && row.indent == indent && is_item row.text then Some (front left row rows) else None

abbrev pub item_then : Tree → Rest → Option Rest → Turn Tree Rest
item_then item left (Some next) = More item next
item_then item left None = Last (item ∷ []) left

abbrev pub block_item_turn : (indent : ℕ) → Outcome → Turn Tree Rest
block_item_turn indent (Ok x) = item_then x.0 x.1 (item_in indent x.1 x.1.below)
block_item_turn indent (Err e) = Refused e

-- from the `-` of an item on
abbrev pub ItemTurn : BlockReading → (levels indent : ℕ) → List Tree → Rest → Turn Tree Rest → Type 0
ItemTurn Node levels indent before from turn =
    (item : Outcome) × Item Node levels indent (on 1 from) item × (turn ≡ block_item_turn indent item)

-- a list whose first `-` stands at a point, with the indent of that point
abbrev pub BlockList : BlockReading → (levels : ℕ) → Reading
BlockList Node levels from outcome =
    (read : Result (List Tree × Rest) YamlEnd) × Repeats (ItemTurn Node levels (from.column - 1)) from read × (outcome ≡ list_made (place from) read)

-- ---- maps

-- behind the `:` of a key: a scalar or flow form that begins in the same line, or a node below
abbrev pub Value : BlockReading → (levels indent : ℕ) → Reading
Value Node levels indent at outcome = MatchBool (is_clear at.here)
    (Below Node levels indent true at outcome)
    (LineValue levels (indent + 1) (skip_blanks at) outcome)

abbrev pub entry_in : (indent : ℕ) → Rest → List Row → Option Rest
entry_in indent left [] = None
entry_in indent left (row ∷ rows) = if not (is_marker row) && row.indent == indent then Some (front left row rows) else None

-- A key stands in one line, and `:` behind it. Where it does not, reading stops at the line's end or the character there.
abbrev pub key_then : Pair → (from to : Rest) → Tree → Turn Pair (Tree × Rest)
key_then pair from to key =
    if from.line == to.line && is_colon (skip_blanks to).here then More pair (key, on 1 (skip_blanks to))
    else Refused (Unread (place (skip_blanks to)))

-- A later key, which is refused as soon as it is read where it stands before.
abbrev pub later_key : List Pair → Pair → (from : Rest) → Outcome → Turn Pair (Tree × Rest)
later_key before pair from (Ok x) =
    if stands_before x.0 (before ++ pair ∷ []) then Refused (TwiceKey (place from))
    else key_then pair from x.1 x.0
later_key before pair from (Err e) = Refused e

-- After an entry the map ends, or the key of the next one begins.
abbrev pub NextEntry : (levels : ℕ) → List Pair → Pair → Rest → Option Rest → Turn Pair (Tree × Rest) → Type 0
NextEntry levels before pair left None turn = turn ≡ Last (pair ∷ []) left
NextEntry levels before pair left (Some from) turn =
    (key : Outcome) × Form false false levels from key × (turn ≡ later_key before pair from key)

abbrev pub AfterValue : (levels indent : ℕ) → List Pair → (key : Tree) → Outcome → Turn Pair (Tree × Rest) → Type 0
AfterValue levels indent before key (Err e) turn = turn ≡ Refused e
AfterValue levels indent before key (Ok x) turn = NextEntry levels before (entry key x.0) x.1 (entry_in indent x.1 x.1.below) turn

-- from behind the `:` of a key on
abbrev pub EntryTurn : BlockReading → (levels indent : ℕ) → List Pair → Tree × Rest → Turn Pair (Tree × Rest) → Type 0
EntryTurn Node levels indent before keyed turn =
    (value : Outcome) × Value Node levels indent keyed.1 value × AfterValue levels indent before keyed.0 value turn

-- a map whose first key was read from a point on, up to behind its `:`
abbrev pub BlockMap : BlockReading → (levels : ℕ) (from : Rest) (key : Tree) (behind : Rest) → Outcome → Type 0
BlockMap Node levels from key behind outcome =
    (read : Result (List Pair × Rest) YamlEnd) × Repeats (EntryTurn Node levels (from.column - 1)) (key, behind) read × (outcome ≡ map_made (place from) read)

-- ---- nodes

-- a form that may be a key: a scalar, or a flow list in one line
abbrev pub may_be_block_key : Opening → (one_line : Bool) → Bool
may_be_block_key Plain one_line = true
may_be_block_key (Quoted single inside) one_line = true
may_be_block_key FlowList one_line = one_line
may_be_block_key opening one_line = false

-- a key was read from the first point up to the second, and its `:` follows
abbrev pub is_block_key : (from to : Rest) → Bool
is_block_key from to = may_be_block_key (opening false true from) (from.line == to.line) && is_colon (skip_blanks to).here

-- As a key a form stands one level deeper.
abbrev pub FirstKey : BlockReading → (levels : ℕ) (from : Rest) (key : Tree) (to : Rest) → Option Place → Outcome → Type 0
FirstKey Node levels from key to (Some deep) outcome = outcome ≡ Err (TooDeep deep)
FirstKey Node levels from key to None outcome = BlockMap Node levels from key (on 1 (skip_blanks to)) outcome

-- A form was begun where a node may begin: it is the first key of a map, or the node.
abbrev pub AfterForm : BlockReading → (levels least : ℕ) (from : Rest) → Outcome → Outcome → Type 0
AfterForm Node levels least from (Err e) outcome = outcome ≡ Err e
AfterForm Node levels least from (Ok x) outcome = MatchBool (is_block_key from x.1)
    (FirstKey Node levels from x.0 x.1 (deep_place x.0 levels) outcome)
    (outcome ≡ whole_form (opening false true from) least from (Ok x))

-- A node of at most so many levels where a block list or map may begin. `least` is the least indent of the other lines
-- of a plain scalar.
abbrev pub BlockNode : (levels : ℕ) → BlockReading
BlockNode zero least from outcome = MatchBool (is_item from.here)
    (outcome ≡ Err (TooDeep (place from)))
    (outcome ≡ Err (deep_end (place from) (opening false true from)))
BlockNode (suc levels) least from outcome = MatchBool (is_item from.here)
    (BlockList (BlockNode levels) levels from outcome)
    ((begun : Outcome) × Form false true (suc levels) from begun × AfterForm (BlockNode levels) levels least from begun outcome)
