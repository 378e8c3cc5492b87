-- Flow forms: lists in `[` `]`, maps in `{` `}`, and the nodes in them. A relation says what reading a form at a point
-- gives: its tree and what is left of the text, or the first refusal.
use Rattle.std.specs.Prelude.{◌≡◌, ℕ, zero, suc, Bool, true, false, ◌&&◌, ◌||◌, ◌==◌, if◌then◌else◌, MatchBool, List, [], ◌∷◌, drop, Result, Ok, Err}
use Rattle.dp_base.specs.declared.place.Place.{Place}
use Rattle.yaml_tree.specs.Rest.{Rest, place, on}
use Rattle.yaml_tree.specs.Characters.{begins, ends_scalar}
use Rattle.yaml_tree.specs.Lines.{flow_point}
use Rattle.yaml_tree.specs.Scalars.{plain, plain_part, quoted}
use Rattle.yaml_tree.specs.Openings.{opening, deep_end}
use Rattle.yaml_tree.specs.declared.opening.Opening.{Opening}
use Rattle.yaml_tree.specs.declared.opening.Opening.TheVariants.{Plain, Quoted, OpenQuote, FlowList, FlowMap, Header, Outside, Nothing}
use Rattle.yaml_tree.specs.Keys.{stands_before}
use Rattle.yaml_tree.specs.Repeats.{Turn, More, Last, Refused, Repeats}
use Rattle.yaml_tree.specs.declared.tree.Feature.TheVariants.{SinglePair}
use Rattle.yaml_tree.specs.declared.tree.Tree.{Tree}
use Rattle.yaml_tree.specs.declared.tree.Tree.TheVariants as trees
use Rattle.yaml_tree.specs.declared.tree.Pair.{Pair}
use Rattle.yaml_tree.specs.declared.tree.YamlEnd.{YamlEnd}
use Rattle.yaml_tree.specs.declared.tree.YamlEnd.TheVariants.{BadQuote, Unread, TwiceKey, OutOfProfile}

abbrev pub Outcome : Type 0
Outcome = Result (Tree × Rest) YamlEnd

-- what reading a kind of node at a point gives
abbrev pub Reading : Type 1
Reading = Rest → Outcome → Type 0

-- ---- a form that may be a key, and its `:`

-- In a flow form a quoted scalar, a list, and a plain scalar on one line may be keys.
abbrev pub may_be_key : Opening → (one_line : Bool) → Bool
may_be_key Plain one_line = one_line
may_be_key (Quoted single inside) one_line = true
may_be_key FlowList one_line = true
may_be_key opening one_line = false

-- The `:` of a key: after a plain scalar something has to follow that ends it.
abbrev pub is_key_colon : Opening → List ℕ → Bool
is_key_colon Plain here = begins 58 here && ends_scalar true (drop 1 here)
is_key_colon opening here = begins 58 here

-- At the third point stands the `:` of a key that was read from the first point up to the second.
abbrev pub is_keyed : Rest → Rest → Rest → Bool
is_keyed from to colon = may_be_key (opening true true from) (from.line == to.line) && is_key_colon (opening true true from) colon.here

-- ---- lists

abbrev pub next_turn : {A : Type 0} → A → Result Rest YamlEnd → Turn A Rest
next_turn x (Ok next) = More x next
next_turn x (Err e) = Refused e

-- After an item, at the next point: `,`, or `]`. The `:` of a key is out of the profile, at that key.
abbrev pub item_ends : (from : Rest) → Tree → (to : Rest) → Result Rest YamlEnd → Turn Tree Rest
item_ends from item to (Err e) = Refused e
item_ends from item to (Ok next) =
    if begins 44 next.here then next_turn item (flow_point (on 1 next))
    else (if begins 93 next.here then Last (item ∷ []) (on 1 next)
    else (if is_keyed from to next then Refused (OutOfProfile (place from) SinglePair)
    else Refused (Unread (place next))))

abbrev pub item_turn : Rest → Outcome → Turn Tree Rest
item_turn from (Ok x) = item_ends from x.0 x.1 (flow_point x.1)
item_turn from (Err e) = Refused e

-- in a list: its `]`, or an item
abbrev pub ListTurn : Reading → List Tree → Rest → Turn Tree Rest → Type 0
ListTurn Node before from turn = MatchBool (begins 93 from.here)
    (turn ≡ Last [] (on 1 from))
    ((item : Outcome) × Node from item × (turn ≡ item_turn from item))

abbrev pub list_made : Place → Result (List Tree × Rest) YamlEnd → Outcome
list_made at (Ok x) = Ok (trees.List at x.0, x.1)
list_made at (Err e) = Err e

-- a list or a map whose opening bracket stands at a point, read in turns from the next point on
abbrev pub FromNext : {A : Type 0} → (List A → Rest → Turn A Rest → Type 0) → Result Rest YamlEnd → Result (List A × Rest) YamlEnd → Type 0
FromNext OneTurn (Ok next) read = Repeats OneTurn next read
FromNext OneTurn (Err e) read = read ≡ Err e

abbrev pub ListForm : Reading → Reading
ListForm Node from outcome =
    (read : Result (List Tree × Rest) YamlEnd) × FromNext (ListTurn Node) (flow_point (on 1 from)) read × (outcome ≡ list_made (place from) read)

-- ---- maps

abbrev pub entry : Tree → Tree → Pair
entry key value = record { key = key; value = value }

abbrev pub empty_at : Rest → Tree
empty_at at = trees.Scalar (place at) []

abbrev pub ends_entry : List ℕ → Bool
ends_entry here = begins 44 here || begins 125 here

-- After an entry, at the next point: `,`, or `}`.
abbrev pub entry_ends : Pair → Rest → Turn Pair Rest
entry_ends pair next =
    if begins 44 next.here then next_turn pair (flow_point (on 1 next))
    else (if begins 125 next.here then Last (pair ∷ []) (on 1 next)
    else Refused (Unread (place next)))

abbrev pub entry_turn : Pair → Result Rest YamlEnd → Turn Pair Rest
entry_turn pair (Ok next) = entry_ends pair next
entry_turn pair (Err e) = Refused e

abbrev pub value_turn : Tree → Outcome → Turn Pair Rest
value_turn key (Ok x) = entry_turn (entry key x.0) (flow_point x.1)
value_turn key (Err e) = Refused e

-- Behind the `:` of a key: the value, which is the empty scalar where the entry ends.
abbrev pub ValueTurn : Reading → (key : Tree) (colon : Rest) → Result Rest YamlEnd → Turn Pair Rest → Type 0
ValueTurn Node key colon (Err e) turn = turn ≡ Refused e
ValueTurn Node key colon (Ok next) turn = MatchBool (ends_entry next.here)
    (turn ≡ entry_ends (entry key (empty_at colon)) next)
    ((value : Outcome) × Node next value × (turn ≡ value_turn key value))

-- Behind a key, at the next point: its `:` and the value, or the end of the entry, whose value is the empty scalar.
abbrev pub KeyTurn : Reading → (from : Rest) (key : Tree) (to : Rest) → Result Rest YamlEnd → Turn Pair Rest → Type 0
KeyTurn Node from key to (Err e) turn = turn ≡ Refused e
KeyTurn Node from key to (Ok next) turn = MatchBool (is_keyed from to next)
    (ValueTurn Node key (on 1 next) (flow_point (on 1 next)) turn)
    (turn ≡ entry_ends (entry key (empty_at to)) next)

-- A key that stands before is refused as soon as it is read.
abbrev pub AfterKey : Reading → List Pair → (from : Rest) → Outcome → Turn Pair Rest → Type 0
AfterKey Node before from (Err e) turn = turn ≡ Refused e
AfterKey Node before from (Ok x) turn = MatchBool (stands_before x.0 before)
    (turn ≡ Refused (TwiceKey (place from)))
    (KeyTurn Node from x.0 x.1 (flow_point x.1) turn)

-- in a map: its `}`, or an entry
abbrev pub MapTurn : (Node Key : Reading) → List Pair → Rest → Turn Pair Rest → Type 0
MapTurn Node Key before from turn = MatchBool (begins 125 from.here)
    (turn ≡ Last [] (on 1 from))
    ((key : Outcome) × Key from key × AfterKey Node before from key turn)

abbrev pub map_made : Place → Result (List Pair × Rest) YamlEnd → Outcome
map_made at (Ok x) = Ok (trees.Map at x.0, x.1)
map_made at (Err e) = Err e

abbrev pub MapForm : (Node Key : Reading) → Reading
MapForm Node Key from outcome =
    (read : Result (List Pair × Rest) YamlEnd) × FromNext (MapTurn Node Key) (flow_point (on 1 from)) read × (outcome ≡ map_made (place from) read)

-- ---- nodes

-- A plain scalar in a flow form goes on over lines; of one in block style this is what stands in its first line.
abbrev pub plain_scalar : (flow : Bool) → Rest → Outcome
plain_scalar true from = plain true 0 from
plain_scalar false from = plain_part from

-- of a block scalar the line of its header, which it fills
abbrev pub header_line : Rest → Outcome
header_line from = Ok (trees.Scalar (place from) [], record from { here = [] })

-- a form by what begins at its point
abbrev pub FormOf : (flow : Bool) → (Node Key : Reading) → Opening → Reading
FormOf flow Node Key Plain from outcome = outcome ≡ plain_scalar flow from
FormOf flow Node Key (Quoted single inside) from outcome = outcome ≡ quoted from single inside
FormOf flow Node Key OpenQuote from outcome = outcome ≡ Err (BadQuote (place from))
FormOf flow Node Key FlowList from outcome = ListForm Node from outcome
FormOf flow Node Key FlowMap from outcome = MapForm Node Key from outcome
FormOf flow Node Key (Header style chomping) from outcome = outcome ≡ header_line from
FormOf flow Node Key (Outside feature) from outcome = outcome ≡ Err (OutOfProfile (place from) feature)
FormOf flow Node Key Nothing from outcome = outcome ≡ Err (Unread (place from))

-- A scalar or flow form of at most so many levels. `flow` says whether it stands inside a flow form, and `maps`
-- whether it may be a flow map. What stands inside a list or map has one level less.
abbrev pub Form : (flow maps : Bool) → (levels : ℕ) → Reading
Form flow maps zero from outcome = outcome ≡ Err (deep_end (place from) (opening flow maps from))
Form flow maps (suc levels) from outcome = FormOf flow (Form true true levels) (Form true false levels) (opening flow maps from) from outcome
