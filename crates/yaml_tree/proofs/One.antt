-- Reading gives one outcome.
use Rattle.std.proofs.Common.{◌≡◌, ℕ, zero, suc, ◌+◌, ◌-◌, Bool, true, false, List, [], ◌∷◌, ◌++◌, map, Option, None, Some, Result, Ok, Err, refl, sym, ap, ◌∙◌, subst, subst₂, append_assoc, append-nil}
use Rattle.std.specs.Prelude.{MatchBool}
use Rattle.yaml_scan.specs.Scan.{scan}
use Rattle.yaml_scan.specs.declared.line.Line.{Line}
use Rattle.yaml_scan.specs.declared.line.ScanEnd.{ScanEnd}
use Rattle.dp_base.specs.declared.place.Place.{Place}
use Rattle.yaml_tree.specs.Rest.{Row, row_of, Rest, on, skip_blanks, front}
use Rattle.yaml_tree.specs.Characters.{begins, is_item, is_clear}
use Rattle.yaml_tree.specs.Lines.{from_content, is_marker, flow_point}
use Rattle.yaml_tree.specs.Openings.{opening}
use Rattle.yaml_tree.specs.Keys.{stands_before, deep_place}
use Rattle.yaml_tree.specs.Repeats.{Turn, More, Last, InTurn, EndsWith, Repeats}
use Rattle.yaml_tree.specs.Repeats as repeats
use Rattle.yaml_tree.specs.Flow.{Outcome, Reading, ListTurn, FromNext, ListForm, entry, ends_entry, ValueTurn, KeyTurn, AfterKey, MapTurn, MapForm, FormOf, Form, is_keyed}
use Rattle.yaml_tree.specs.Blocks.{BlockReading, LineValue, node_in, BelowOf, Below, Item, ItemTurn, BlockList, Value, entry_in, NextEntry, AfterValue, EntryTurn, BlockMap, is_block_key, FirstKey, AfterForm, BlockNode}
use Rattle.yaml_tree.specs.Texts.{most_levels, before_lines, past_start, TopNode, OfLines, Reads}
use Rattle.yaml_tree.specs.declared.opening.Opening.{Opening}
use Rattle.yaml_tree.specs.declared.opening.Opening.TheVariants.{Plain, Quoted, OpenQuote, FlowList, FlowMap, Header, Outside, Nothing}
use Rattle.yaml_tree.specs.declared.tree.Tree.{Tree}
use Rattle.yaml_tree.specs.declared.tree.Pair.{Pair}
use Rattle.yaml_tree.specs.declared.tree.YamlEnd.{YamlEnd}

-- ---- what holds of one thing

abbrev pub IsOne : {X : Type 0} → (X → Type 0) → Type 0
IsOne {X} P = (x y : X) → P x → P y → x ≡ y

one_is : {X : Type 0} (z : X) → IsOne (λ (x : X). x ≡ z)
one_is z x y a b = a ∙ sym b

one_choice : {X : Type 0} (b : Bool) (P Q : X → Type 0) → IsOne P → IsOne Q → IsOne (λ (x : X). MatchBool b (P x) (Q x))
one_choice true P Q one_p one_q x y p q = one_p x y p q
one_choice false P Q one_p one_q x y p q = one_q x y p q

-- one thing that one other thing is followed by
one_then : {X Y : Type 0} (P : X → Type 0) (Q : X → Y → Type 0) → IsOne P → ((x : X) → IsOne (Q x)) → IsOne (λ (y : Y). (x : X) × P x × Q x y)
one_then P Q one_p one_q y z a b = one_q b.0 y z (subst (λ x. Q x y) (one_p a.0 b.0 a.1 b.1) a.2) b.2

-- ---- turns

abbrev pub IsOneTurn : {A S : Type 0} → (List A → S → Turn A S → Type 0) → Type 0
IsOneTurn {A} {S} OneTurn = (before : List A) (from : S) → IsOne (OneTurn before from)

one_end : {A S : Type 0} (xs : List A) (end : Turn A S) → IsOne (EndsWith xs end)
one_end xs (More x next) a b p q = absurd p
one_end xs (Last others left) a b p q = p ∙ sym q
one_end xs (repeats.Refused e) a b p q = p ∙ sym q

module _ {A S : Type 0} (OneTurn : List A → S → Turn A S → Type 0) (one : IsOneTurn OneTurn) where
  -- where no turn is left, the next one is the last
  ended_first : (before : List A) (from at : S) (whole : List A) (end : Turn A S) (y : A) (next : S) (outcome : Result (List A × Rest) YamlEnd)
      → whole ≡ before ++ [] → from ≡ at → OneTurn whole at end → EndsWith whole end outcome → OneTurn before from (More y next) → ⊥
  ended_first before from at whole end y next outcome is same last ends more =
      let here : OneTurn before from end = subst₂ (λ xs s. OneTurn xs s end) (is ∙ append-nil before) (sym same) last in
      subst (λ (t : Turn A S). EndsWith whole t outcome) (one before from end (More y next) here more) ends

  one_run : (before xs ys : List A) (from at at' : S) (whole whole' : List A) (end end' : Turn A S) (a b : Result (List A × Rest) YamlEnd)
      → whole ≡ before ++ xs → InTurn OneTurn before from xs at → OneTurn whole at end → EndsWith whole end a
      → whole' ≡ before ++ ys → InTurn OneTurn before from ys at' → OneTurn whole' at' end' → EndsWith whole' end' b → a ≡ b
  one_run before [] [] from at at' whole whole' end end' a b is run last ends is' run' last' ends' =
      let here : OneTurn whole' at' end = subst₂ (λ xs s. OneTurn xs s end) (is ∙ sym is') (sym run ∙ run') last in
      one_end whole' end' a b (subst₂ (λ xs t. EndsWith xs t a) (is ∙ sym is') (one whole' at' end end' here last') ends) ends'
  one_run before [] (y ∷ ys) from at at' whole whole' end end' a b is run last ends is' run' last' ends' =
      absurd (ended_first before from at whole end y run'.0 a is run last ends run'.1)
  one_run before (x ∷ xs) [] from at at' whole whole' end end' a b is run last ends is' run' last' ends' =
      absurd (ended_first before from at' whole' end' x run.0 b is' run' last' ends' run.1)
  one_run before (x ∷ xs) (y ∷ ys) from at at' whole whole' end end' a b is run last ends is' run' last' ends' =
      let e : More x run.0 ≡ More y run'.0 = one before from (More x run.0) (More y run'.0) run.1 run'.1 in
      let head : x ≡ y = cc e in
      let next : run.0 ≡ run'.0 = cc e in
      one_run (before ++ y ∷ []) xs ys run'.0 at at' whole whole' end end' a b
      (is ∙ ap (λ (z : A). before ++ z ∷ xs) head ∙ sym (append_assoc before (y ∷ []) xs))
      (subst₂ (λ (z : A) s. InTurn OneTurn (before ++ z ∷ []) s xs at) head next run.2) last ends
      (is' ∙ sym (append_assoc before (y ∷ []) ys)) run'.2 last' ends'

  pub one_repeats : (from : S) → IsOne (Repeats OneTurn from)
  one_repeats from a b p q = one_run [] p.read q.read from p.at q.at p.read q.read p.end q.end a b refl p.in_turn p.last p.ends refl q.in_turn q.last q.ends

-- ---- flow forms

abbrev pub IsOneReading : Reading → Type 0
IsOneReading Node = (from : Rest) → IsOne (Node from)

pub one_list_turn : (Node : Reading) → IsOneReading Node → IsOneTurn (ListTurn Node)
one_list_turn Node one before from =
    one_choice (begins 93 from.here) _ _ (one_is _) (one_then (Node from) _ (one from) (λ item. one_is _))

one_from_next : {A : Type 0} (OneTurn : List A → Rest → Turn A Rest → Type 0) → IsOneTurn OneTurn → (o : Result Rest YamlEnd) → IsOne (FromNext OneTurn o)
one_from_next OneTurn one (Ok next) = one_repeats OneTurn one next
one_from_next OneTurn one (Err e) = one_is (Err e)

pub one_list_form : (Node : Reading) → IsOneReading Node → IsOneReading (ListForm Node)
one_list_form Node one from =
    one_then (FromNext (ListTurn Node) (flow_point (on 1 from))) _ (one_from_next (ListTurn Node) (one_list_turn Node one) (flow_point (on 1 from))) (λ read. one_is _)

module _ (Node : Reading) (one : IsOneReading Node) where
  one_value_turn : (key : Tree) (colon : Rest) (o : Result Rest YamlEnd) → IsOne (ValueTurn Node key colon o)
  one_value_turn key colon (Err e) = one_is _
  one_value_turn key colon (Ok next) = one_choice (ends_entry next.here) _ _ (one_is _) (one_then (Node next) _ (one next) (λ value. one_is _))

  one_key_turn : (from : Rest) (key : Tree) (to : Rest) (o : Result Rest YamlEnd) → IsOne (KeyTurn Node from key to o)
  one_key_turn from key to (Err e) = one_is _
  one_key_turn from key to (Ok next) = one_choice (is_keyed from to next) _ _ (one_value_turn key (on 1 next) (flow_point (on 1 next))) (one_is _)

  one_after_key : (before : List Pair) (from : Rest) (key : Outcome) → IsOne (AfterKey Node before from key)
  one_after_key before from (Err e) = one_is _
  one_after_key before from (Ok x) = one_choice (stands_before x.0 before) _ _ (one_is _) (one_key_turn from x.0 x.1 (flow_point x.1))

  module _ (Key : Reading) (one_key : IsOneReading Key) where
    pub one_map_turn : IsOneTurn (MapTurn Node Key)
    one_map_turn before from = one_choice (begins 125 from.here) _ _ (one_is _) (one_then (Key from) _ (one_key from) (one_after_key before from))

    pub one_map_form : IsOneReading (MapForm Node Key)
    one_map_form from =
        one_then (FromNext (MapTurn Node Key) (flow_point (on 1 from))) _ (one_from_next (MapTurn Node Key) one_map_turn (flow_point (on 1 from))) (λ read. one_is _)

    one_form_of : (flow : Bool) (o : Opening) → IsOneReading (FormOf flow Node Key o)
    one_form_of flow Plain from = one_is _
    one_form_of flow (Quoted single inside) from = one_is _
    one_form_of flow OpenQuote from = one_is _
    one_form_of flow FlowList from = one_list_form Node one from
    one_form_of flow FlowMap from = one_map_form from
    one_form_of flow (Header style chomping) from = one_is _
    one_form_of flow (Outside feature) from = one_is _
    one_form_of flow Nothing from = one_is _

pub one_form : (flow maps : Bool) (levels : ℕ) → IsOneReading (Form flow maps levels)
one_form flow maps zero from = one_is _
one_form flow maps (suc levels) from =
    one_form_of (Form true true levels) (one_form true true levels) (Form true false levels) (one_form true false levels) flow (opening flow maps from) from

-- ---- block forms

abbrev pub IsOneBlock : BlockReading → Type 0
IsOneBlock Node = (least : ℕ) → IsOneReading (Node least)

pub one_line_value : (levels least : ℕ) → IsOneReading (LineValue levels least)
one_line_value levels least from = one_then (Form false true levels from) _ (one_form false true levels from) (λ begun. one_is _)

one_next_entry : (levels : ℕ) (before : List Pair) (pair : Pair) (left : Rest) (o : Option Rest) → IsOne (NextEntry levels before pair left o)
one_next_entry levels before pair left None = one_is _
one_next_entry levels before pair left (Some from) = one_then (Form false false levels from) _ (one_form false false levels from) (λ key. one_is _)

one_after_value : (levels indent : ℕ) (before : List Pair) (key : Tree) (value : Outcome) → IsOne (AfterValue levels indent before key value)
one_after_value levels indent before key (Err e) = one_is _
one_after_value levels indent before key (Ok x) = one_next_entry levels before (entry key x.0) x.1 (entry_in indent x.1 x.1.below)

module _ (Node : BlockReading) (one : IsOneBlock Node) (levels : ℕ) where
  one_below_of : (indent : ℕ) (at : Rest) (o : Option Rest) → IsOne (BelowOf Node levels indent at o)
  one_below_of indent at (Some from) = one (indent + 1) from
  one_below_of indent at None = one_is _

  pub one_below : (indent : ℕ) (lists : Bool) → IsOneReading (Below Node levels indent lists)
  one_below indent lists at = one_below_of indent at (node_in indent lists at (from_content at.below))

  pub one_item : (indent : ℕ) → IsOneReading (Item Node levels indent)
  one_item indent at = one_choice (is_clear at.here) _ _ (one_below indent false at) (one (indent + 1) (skip_blanks at))

  pub one_item_turn : (indent : ℕ) → IsOneTurn (ItemTurn Node levels indent)
  one_item_turn indent before from = one_then (Item Node levels indent (on 1 from)) _ (one_item indent (on 1 from)) (λ item. one_is _)

  pub one_block_list : IsOneReading (BlockList Node levels)
  one_block_list from =
      one_then (Repeats (ItemTurn Node levels (from.column - 1)) from) _ (one_repeats (ItemTurn Node levels (from.column - 1)) (one_item_turn (from.column - 1)) from) (λ read. one_is _)

  pub one_value : (indent : ℕ) → IsOneReading (Value Node levels indent)
  one_value indent at = one_choice (is_clear at.here) _ _ (one_below indent true at) (one_line_value levels (indent + 1) (skip_blanks at))

  pub one_entry_turn : (indent : ℕ) → IsOneTurn (EntryTurn Node levels indent)
  one_entry_turn indent before keyed = one_then (Value Node levels indent keyed.1) _ (one_value indent keyed.1) (one_after_value levels indent before keyed.0)

  pub one_block_map : (from : Rest) (key : Tree) (behind : Rest) → IsOne (BlockMap Node levels from key behind)
  one_block_map from key behind =
      one_then (Repeats (EntryTurn Node levels (from.column - 1)) (key, behind)) _ (one_repeats (EntryTurn Node levels (from.column - 1)) (one_entry_turn (from.column - 1)) (key, behind)) (λ read. one_is _)

  one_first_key : (from : Rest) (key : Tree) (to : Rest) (deep : Option Place) → IsOne (FirstKey Node levels from key to deep)
  one_first_key from key to (Some deep) = one_is _
  one_first_key from key to None = one_block_map from key (on 1 (skip_blanks to))

  pub one_after_form : (least : ℕ) (from : Rest) (begun : Outcome) → IsOne (AfterForm Node levels least from begun)
  one_after_form least from (Err e) = one_is _
  one_after_form least from (Ok x) = one_choice (is_block_key from x.1) _ _ (one_first_key from x.0 x.1 (deep_place x.0 levels)) (one_is _)

pub one_node : (levels : ℕ) → IsOneBlock (BlockNode levels)
one_node zero least from = one_choice (is_item from.here) _ _ (one_is _) (one_is _)
one_node (suc levels) least from =
    one_choice (is_item from.here) _ _ (one_block_list (BlockNode levels) (one_node levels) levels from)
    (one_then (Form false true (suc levels) from) _ (one_form false true (suc levels) from) (one_after_form (BlockNode levels) (one_node levels) levels least from))

-- ---- whole texts

one_top : (file : ℕ) (start : Rest) (rows : List Row) → IsOne (TopNode file start rows)
one_top file start [] = one_is _
one_top file start (row ∷ rows) = one_choice (is_marker row) _ _ (one_is _) (one_then (BlockNode most_levels 0 (front start row rows)) _ (one_node most_levels 0 (front start row rows)) (λ node. one_is _))

one_of_lines : (file : ℕ) (bytes : List ℕ) (lines : Result (List Line) ScanEnd) → IsOne (OfLines file bytes lines)
one_of_lines file bytes (Err e) = one_is _
one_of_lines file bytes (Ok lines) = let rows : List Row = map (row_of bytes) lines in one_top file (before_lines file rows) (past_start (from_content rows))

pub one_reading : (file : ℕ) (bytes : List ℕ) (a b : Result Tree YamlEnd) → Reads file bytes a → Reads file bytes b → a ≡ b
one_reading file bytes = one_of_lines file bytes (scan file bytes)
