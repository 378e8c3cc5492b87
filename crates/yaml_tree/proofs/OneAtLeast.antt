-- Reading always gives an outcome: a tree, or a refusal.
use Rattle.std.proofs.Common.{◌≡◌, ℕ, zero, suc, ◌+◌, ◌-◌, ◌<◌, Bool, true, false, List, [], ◌∷◌, ◌++◌, map, Option, None, Some, Result, Ok, Err, refl, sym, subst, arith, append_assoc, append-nil}
use Rattle.std.specs.Prelude.{MatchBool}
use Rattle.yaml_scan.specs.Scan.{scan}
use Rattle.yaml_scan.specs.declared.line.Line.{Line}
use Rattle.yaml_scan.specs.declared.line.ScanEnd.{ScanEnd}
use Rattle.dp_base.specs.declared.place.Place.{Place}
use Rattle.yaml_tree.specs.Rest.{Row, row_of, Rest, on, skip_blanks, front}
use Rattle.yaml_tree.specs.Characters.{begins, is_item, is_clear}
use Rattle.yaml_tree.specs.Lines.{from_content, is_marker, flow_point}
use Rattle.yaml_tree.specs.Openings.{opening}
use Rattle.yaml_tree.specs.Keys.{stands_before, deep_place}
use Rattle.yaml_tree.specs.Repeats.{Turn, More, Last, InTurn, EndsWith, Repeats}
use Rattle.yaml_tree.specs.Repeats as repeats
use Rattle.yaml_tree.specs.Flow.{Outcome, Reading, ListTurn, FromNext, ListForm, entry, ends_entry, ValueTurn, KeyTurn, AfterKey, MapTurn, MapForm, FormOf, Form, is_keyed}
use Rattle.yaml_tree.specs.Blocks.{BlockReading, LineValue, node_in, BelowOf, Below, Item, ItemTurn, BlockList, Value, entry_in, NextEntry, AfterValue, EntryTurn, BlockMap, is_block_key, FirstKey, AfterForm, BlockNode}
use Rattle.yaml_tree.specs.Texts.{most_levels, before_lines, past_start, TopNode, OfLines, Reads}
use Rattle.yaml_tree.specs.declared.opening.Opening.{Opening}
use Rattle.yaml_tree.specs.declared.opening.Opening.TheVariants.{Plain, Quoted, OpenQuote, FlowList, FlowMap, Header, Outside, Nothing}
use Rattle.yaml_tree.specs.declared.tree.Tree.{Tree}
use Rattle.yaml_tree.specs.declared.tree.Pair.{Pair}
use Rattle.yaml_tree.specs.declared.tree.YamlEnd.{YamlEnd}
use Rattle.yaml_tree.proofs.Sizes.{size, Shortens, TurnsShorten, list_turn-shortens, map_turn-shortens, form-shortens, BlockShortens, item_turn-shortens, entry_turn-shortens, node-shortens}

-- ---- what holds of something

abbrev pub HasOne : {X : Type 0} → (X → Type 0) → Type 0
HasOne {X} P = (x : X) × P x

has_is : {X : Type 0} (z : X) → HasOne (λ (x : X). x ≡ z)
has_is z = (z, refl)

has_choice : {X : Type 0} (b : Bool) (P Q : X → Type 0) → HasOne P → HasOne Q → HasOne (λ (x : X). MatchBool b (P x) (Q x))
has_choice true P Q p q = p
has_choice false P Q p q = q

has_then : {X Y : Type 0} (P : X → Type 0) (Q : X → Y → Type 0) → HasOne P → ((x : X) → HasOne (Q x)) → HasOne (λ (y : Y). (x : X) × P x × Q x y)
has_then P Q p q = let next = q p.0 in (next.0, (p.0, p.1, next.1))

-- ---- turns

abbrev pub HasOneTurn : {A S : Type 0} → (List A → S → Turn A S → Type 0) → Type 0
HasOneTurn {A} {S} OneTurn = (before : List A) (from : S) → HasOne (OneTurn before from)

abbrev IsLast : {A S : Type 0} → Turn A S → Type 0
IsLast (More x next) = ⊥
IsLast (Last xs left) = Unit {0}
IsLast (repeats.Refused e) = Unit {0}

has_end : {A S : Type 0} (xs : List A) (end : Turn A S) → IsLast end → HasOne (EndsWith xs end)
has_end xs (More x next) last = absurd last
has_end xs (Last others left) last = has_is _
has_end xs (repeats.Refused e) last = has_is _

-- turns up to one that is the last
record Run {A S : Type 0} (OneTurn : List A → S → Turn A S → Type 0) (before : List A) (from : S) : Type 0 where
  read : List A
  at : S
  end : Turn A S
  in_turn : InTurn OneTurn before from read at
  last : OneTurn (before ++ read) at end
  is_last : IsLast end

module _ {A S : Type 0} (measure : S → ℕ) (taken : ℕ) (OneTurn : List A → S → Turn A S → Type 0) (shorten : TurnsShorten measure taken OneTurn) (has : HasOneTurn OneTurn) where
  run_from : (before : List A) (from : S) (turn : Turn A S) → OneTurn before from turn → ((before' : List A) (from' : S) → measure from' < measure from → Run OneTurn before' from') → Run OneTurn before from
  run_from before from (More x next) is goes_on =
      let rest = goes_on (before ++ x ∷ []) next (shorten before from (More x next) is) in
      record {
        read = x ∷ rest.read;
        at = rest.at;
        end = rest.end;
        in_turn = (next, is, rest.in_turn);
        last = subst (λ xs. OneTurn xs rest.at rest.end) (append_assoc before (x ∷ []) rest.read) rest.last;
        is_last = rest.is_last;
      }
  run_from before from (Last xs left) is goes_on =
      record { read = []; at = from; end = Last xs left; in_turn = refl; last = subst (λ ys. OneTurn ys from (Last xs left)) (sym (append-nil before)) is; is_last = tt }
  run_from before from (repeats.Refused e) is goes_on =
      record { read = []; at = from; end = repeats.Refused e; in_turn = refl; last = subst (λ ys. OneTurn ys from (repeats.Refused e)) (sym (append-nil before)) is; is_last = tt }

  has_run : (most : ℕ) (before : List A) (from : S) → measure from < most → Run OneTurn before from
  has_run zero before from less = absurd (omega arith)
  has_run (suc most) before from less =
      let first = has before from in
      run_from before from first.0 first.1 (λ before' from' smaller. has_run most before' from' (omega arith))

  has_repeats : (from : S) → HasOne (Repeats OneTurn from)
  has_repeats from =
      let run = has_run (suc (measure from)) [] from (omega arith) in
      let end = has_end run.read run.end run.is_last in
      (end.0, record { read = run.read; at = run.at; end = run.end; in_turn = run.in_turn; last = run.last; ends = end.1 })

-- ---- flow forms

abbrev pub HasOneReading : Reading → Type 0
HasOneReading Node = (from : Rest) → HasOne (Node from)

has_from_next : {A : Type 0} (OneTurn : List A → Rest → Turn A Rest → Type 0) → TurnsShorten size 1 OneTurn → HasOneTurn OneTurn → (o : Result Rest YamlEnd) → HasOne (FromNext OneTurn o)
has_from_next OneTurn shorten has (Ok next) = has_repeats size 1 OneTurn shorten has next
has_from_next OneTurn shorten has (Err e) = has_is _

module _ (Node : Reading) (shortens : Shortens Node) (has : HasOneReading Node) where
  has_list_turn : HasOneTurn (ListTurn Node)
  has_list_turn before from = has_choice (begins 93 from.here) _ _ (has_is _) (has_then (Node from) _ (has from) (λ item. has_is _))

  has_list_form : HasOneReading (ListForm Node)
  has_list_form from =
      has_then (FromNext (ListTurn Node) (flow_point (on 1 from))) _ (has_from_next (ListTurn Node) (list_turn-shortens Node shortens) has_list_turn (flow_point (on 1 from))) (λ read. has_is _)

  has_value_turn : (key : Tree) (colon : Rest) (o : Result Rest YamlEnd) → HasOne (ValueTurn Node key colon o)
  has_value_turn key colon (Err e) = has_is _
  has_value_turn key colon (Ok next) = has_choice (ends_entry next.here) _ _ (has_is _) (has_then (Node next) _ (has next) (λ value. has_is _))

  has_key_turn : (from : Rest) (key : Tree) (to : Rest) (o : Result Rest YamlEnd) → HasOne (KeyTurn Node from key to o)
  has_key_turn from key to (Err e) = has_is _
  has_key_turn from key to (Ok next) = has_choice (is_keyed from to next) _ _ (has_value_turn key (on 1 next) (flow_point (on 1 next))) (has_is _)

  has_after_key : (before : List Pair) (from : Rest) (key : Outcome) → HasOne (AfterKey Node before from key)
  has_after_key before from (Err e) = has_is _
  has_after_key before from (Ok x) = has_choice (stands_before x.0 before) _ _ (has_is _) (has_key_turn from x.0 x.1 (flow_point x.1))

  module _ (Key : Reading) (key_shortens : Shortens Key) (has_key : HasOneReading Key) where
    has_map_turn : HasOneTurn (MapTurn Node Key)
    has_map_turn before from = has_choice (begins 125 from.here) _ _ (has_is _) (has_then (Key from) _ (has_key from) (has_after_key before from))

    has_map_form : HasOneReading (MapForm Node Key)
    has_map_form from =
        has_then (FromNext (MapTurn Node Key) (flow_point (on 1 from))) _ (has_from_next (MapTurn Node Key) (map_turn-shortens Node shortens Key key_shortens) has_map_turn (flow_point (on 1 from))) (λ read. has_is _)

    has_form_of : (flow : Bool) (o : Opening) → HasOneReading (FormOf flow Node Key o)
    has_form_of flow Plain from = has_is _
    has_form_of flow (Quoted single inside) from = has_is _
    has_form_of flow OpenQuote from = has_is _
    has_form_of flow FlowList from = has_list_form from
    has_form_of flow FlowMap from = has_map_form from
    has_form_of flow (Header style chomping) from = has_is _
    has_form_of flow (Outside feature) from = has_is _
    has_form_of flow Nothing from = has_is _

pub has_form : (flow maps : Bool) (levels : ℕ) → HasOneReading (Form flow maps levels)
has_form flow maps zero from = has_is _
has_form flow maps (suc levels) from =
    has_form_of (Form true true levels) (form-shortens true true levels) (has_form true true levels) (Form true false levels) (form-shortens true false levels) (has_form true false levels) flow (opening flow maps from) from

-- ---- block forms

abbrev pub HasOneBlock : BlockReading → Type 0
HasOneBlock Node = (least : ℕ) → HasOneReading (Node least)

has_line_value : (levels least : ℕ) → HasOneReading (LineValue levels least)
has_line_value levels least from = has_then (Form false true levels from) _ (has_form false true levels from) (λ begun. has_is _)

has_next_entry : (levels : ℕ) (before : List Pair) (pair : Pair) (left : Rest) (o : Option Rest) → HasOne (NextEntry levels before pair left o)
has_next_entry levels before pair left None = has_is _
has_next_entry levels before pair left (Some from) = has_then (Form false false levels from) _ (has_form false false levels from) (λ key. has_is _)

has_after_value : (levels indent : ℕ) (before : List Pair) (key : Tree) (value : Outcome) → HasOne (AfterValue levels indent before key value)
has_after_value levels indent before key (Err e) = has_is _
has_after_value levels indent before key (Ok x) = has_next_entry levels before (entry key x.0) x.1 (entry_in indent x.1 x.1.below)

module _ (Node : BlockReading) (shortens : BlockShortens Node) (has : HasOneBlock Node) (levels : ℕ) where
  has_below_of : (indent : ℕ) (at : Rest) (o : Option Rest) → HasOne (BelowOf Node levels indent at o)
  has_below_of indent at (Some from) = has (indent + 1) from
  has_below_of indent at None = has_is _

  has_below : (indent : ℕ) (lists : Bool) → HasOneReading (Below Node levels indent lists)
  has_below indent lists at = has_below_of indent at (node_in indent lists at (from_content at.below))

  has_item : (indent : ℕ) → HasOneReading (Item Node levels indent)
  has_item indent at = has_choice (is_clear at.here) _ _ (has_below indent false at) (has (indent + 1) (skip_blanks at))

  has_item_turn : (indent : ℕ) → HasOneTurn (ItemTurn Node levels indent)
  has_item_turn indent before from = has_then (Item Node levels indent (on 1 from)) _ (has_item indent (on 1 from)) (λ item. has_is _)

  has_block_list : HasOneReading (BlockList Node levels)
  has_block_list from =
      has_then (Repeats (ItemTurn Node levels (from.column - 1)) from) _ (has_repeats size 0 (ItemTurn Node levels (from.column - 1)) (item_turn-shortens Node shortens levels (from.column - 1)) (has_item_turn (from.column - 1)) from) (λ read. has_is _)

  has_value : (indent : ℕ) → HasOneReading (Value Node levels indent)
  has_value indent at = has_choice (is_clear at.here) _ _ (has_below indent true at) (has_line_value levels (indent + 1) (skip_blanks at))

  has_entry_turn : (indent : ℕ) → HasOneTurn (EntryTurn Node levels indent)
  has_entry_turn indent before keyed = has_then (Value Node levels indent keyed.1) _ (has_value indent keyed.1) (has_after_value levels indent before keyed.0)

  has_block_map : (from : Rest) (key : Tree) (behind : Rest) → HasOne (BlockMap Node levels from key behind)
  has_block_map from key behind =
      has_then (Repeats (EntryTurn Node levels (from.column - 1)) (key, behind)) _
      (has_repeats (λ (keyed : Tree × Rest). size keyed.1) 0 (EntryTurn Node levels (from.column - 1)) (entry_turn-shortens Node shortens levels (from.column - 1)) (has_entry_turn (from.column - 1)) (key, behind)) (λ read. has_is _)

  has_first_key : (from : Rest) (key : Tree) (to : Rest) (deep : Option Place) → HasOne (FirstKey Node levels from key to deep)
  has_first_key from key to (Some deep) = has_is _
  has_first_key from key to None = has_block_map from key (on 1 (skip_blanks to))

  has_after_form : (least : ℕ) (from : Rest) (begun : Outcome) → HasOne (AfterForm Node levels least from begun)
  has_after_form least from (Err e) = has_is _
  has_after_form least from (Ok x) = has_choice (is_block_key from x.1) _ _ (has_first_key from x.0 x.1 (deep_place x.0 levels)) (has_is _)

pub has_node : (levels : ℕ) → HasOneBlock (BlockNode levels)
has_node zero least from = has_choice (is_item from.here) _ _ (has_is _) (has_is _)
has_node (suc levels) least from =
    has_choice (is_item from.here) _ _ (has_block_list (BlockNode levels) (node-shortens levels) (has_node levels) levels from)
    (has_then (Form false true (suc levels) from) _ (has_form false true (suc levels) from) (has_after_form (BlockNode levels) (node-shortens levels) (has_node levels) levels least from))

-- ---- whole texts

has_top : (file : ℕ) (start : Rest) (rows : List Row) → HasOne (TopNode file start rows)
has_top file start [] = has_is _
has_top file start (row ∷ rows) = has_choice (is_marker row) _ _ (has_is _) (has_then (BlockNode most_levels 0 (front start row rows)) _ (has_node most_levels 0 (front start row rows)) (λ node. has_is _))

has_of_lines : (file : ℕ) (bytes : List ℕ) (lines : Result (List Line) ScanEnd) → HasOne (OfLines file bytes lines)
has_of_lines file bytes (Err e) = has_is _
has_of_lines file bytes (Ok lines) = let rows : List Row = map (row_of bytes) lines in has_top file (before_lines file rows) (past_start (from_content rows))

-- each text spells a tree, or has a refusal
pub has_reading : (file : ℕ) (bytes : List ℕ) → (outcome : Result Tree YamlEnd) × Reads file bytes outcome
has_reading file bytes = has_of_lines file bytes (scan file bytes)
