-- Block forms of whole characters are trees of whole characters, and so is what is left behind them.
use Rattle.std.proofs.Common.{◌≡◌, ℕ, zero, suc, ◌+◌, ◌-◌, Bool, true, false, not, ◌&&◌, ◌||◌, ◌==◌, if◌then◌else◌, List, [], ◌∷◌, ◌++◌, length, take, drop, replicate, Option, None, Some, Ok, Err, refl, sym, subst, inl, inr, arith}
use Rattle.std.specs.List.{prefix_len, suffix_len}
use Rattle.std.proofs.lemmas.Bool.{and_parts}
use Rattle.dp_base.specs.declared.place.Place.{Place}
use Rattle.yaml_tree.specs.Rest.{Row, Rest, place, on, skip_blanks, front}
use Rattle.yaml_tree.specs.Characters.{begins, begins_plain, ends_word, is_item, is_colon, is_clear}
use Rattle.yaml_tree.specs.Lines.{from_content, is_marker, settle, end_line}
use Rattle.yaml_tree.specs.Scalars.{inner_of, plain}
use Rattle.yaml_tree.specs.Openings.{quote_opening, before_blank, style_of, chomping_of, is_header, opening_of, opening}
use Rattle.yaml_tree.specs.Keys.{stands_before, deep_place}
use Rattle.yaml_tree.specs.Repeats.{Turn, Repeats}
use Rattle.yaml_tree.specs.Flow.{Outcome, entry, empty_at, Form}
use Rattle.yaml_tree.specs.Blocks.{BlockReading, begins_below, ended, whole_form, LineValue, empty_scalar, node_in, BelowOf, Below, Item, item_in, item_then, block_item_turn, ItemTurn, BlockList, Value, entry_in, key_then, later_key, NextEntry, AfterValue, EntryTurn, BlockMap, is_block_key, FirstKey, AfterForm, BlockNode}
use Rattle.yaml_tree.specs.BlockScalars.{is_blank_row, in_content, content_of, content_indent, line_text, folds, break_behind, joined, last_break, trimmed, block_text, block_scalar}
use Rattle.yaml_tree.specs.declared.tree.Tree.{Tree}
use Rattle.yaml_tree.specs.declared.tree.Pair.{Pair}
use Rattle.yaml_tree.proofs.Sizes.{chosen, which, settled-ok, block_scalar-ok, list_made-ok, map_made-ok}
use Rattle.content_guards.proofs.Whole.{whole, no_bytes, one_low, copies, joined as both_whole}
use Rattle.content_guards.proofs.WholeScalars.{AreWhole, IsWhole, passed_whole, skipped_whole, content_whole, settled_whole, ended_whole}
use Rattle.content_guards.proofs.WholeTrees.{is_whole, whole_pair, scalar_whole, list_whole, map_whole}
use Rattle.content_guards.proofs.WholeForms.{Made, Makes, Passes, split, plain_made, entry_whole, empty_whole, one_passes, repeats_pass, form_made}

-- ---- block scalars

taken_whole : (n : ℕ) (rows : List Row) → AreWhole rows → AreWhole (take n rows)
taken_whole zero rows h = tt
taken_whole (suc n) [] h = tt
taken_whole (suc n) (row ∷ rows) h = (h.0, taken_whole n rows h.1)

dropped_whole : (n : ℕ) (rows : List Row) → AreWhole rows → AreWhole (drop n rows)
dropped_whole zero rows h = h
dropped_whole (suc n) [] h = tt
dropped_whole (suc n) (row ∷ rows) h = dropped_whole n rows h.1

line_text_whole : (indent : ℕ) (row : Row) → whole [] row.text ≡ true → whole [] (line_text indent row) ≡ true
line_text_whole indent row h = by (is_blank_row row)
  where
    by : (b : Bool) → whole [] (if b then [] else replicate (row.indent - indent) 32 ++ row.text) ≡ true
    by true = no_bytes
    by false = both_whole [] (replicate (row.indent - indent) 32) row.text (copies (row.indent - indent) 32 (omega arith)) h

module _ (byte : ℕ) (indent : ℕ) where
  break_whole : (row : Row) (rows : List Row) → whole [] (break_behind (style_of byte) indent row rows) ≡ true
  break_whole row [] = no_bytes
  break_whole row (next ∷ rows) = by (folds (style_of byte) indent row (next ∷ rows)) (is_blank_row next)
    where
      by : (b c : Bool) → whole [] (if b then (if c then [] else 32 ∷ []) else 10 ∷ []) ≡ true
      by true true = no_bytes
      by true false = one_low 32 (omega arith)
      by false c = one_low 10 (omega arith)

  joined_whole : (rows : List Row) → AreWhole rows → whole [] (joined (style_of byte) indent rows) ≡ true
  unfolding joined
  joined_whole [] h = no_bytes
  joined_whole (row ∷ rows) h =
      both_whole [] (line_text indent row) (break_behind (style_of byte) indent row rows ++ joined (style_of byte) indent rows) (line_text_whole indent row h.0)
      (both_whole [] (break_behind (style_of byte) indent row rows) (joined (style_of byte) indent rows) (break_whole row rows) (joined_whole rows h.1))

  last_whole : (rows : List Row) → whole [] (last_break rows) ≡ true
  last_whole [] = no_bytes
  last_whole (row ∷ rows) = one_low 10 (omega arith)

  block_text_whole : (bytes : List ℕ) (rows : List Row) → AreWhole rows → whole [] (block_text (style_of byte) (chomping_of bytes) indent rows) ≡ true
  block_text_whole bytes rows h =
      let P : _ → Type 0 = λ c. whole [] (block_text (style_of byte) c indent rows) ≡ true in
      let trim = taken_whole (length rows - suffix_len is_blank_row rows) rows h in
      split P (begins 45 bytes) (λ k. joined_whole (trimmed rows) trim)
      (λ k. split P (begins 43 bytes) (λ l. both_whole [] (joined (style_of byte) indent rows) (last_break rows) (joined_whole rows h) (last_whole rows))
      (λ l. both_whole [] (joined (style_of byte) indent (trimmed rows)) (last_break (trimmed rows)) (joined_whole (trimmed rows) trim) (last_whole (trimmed rows))))

block_scalar_made : (byte : ℕ) (bytes : List ℕ) (least : ℕ) (at : Place) (r : Rest) (x : Tree × Rest) → IsWhole r → block_scalar (style_of byte) (chomping_of bytes) least at r ≡ Ok x → Made x
block_scalar_made byte bytes least at r x good is =
    let content : List Row = content_of least r.below in
    let lines = taken_whole (prefix_len (in_content least) r.below) r.below good.1 in
    let left : Rest = record r { below = drop (length content) r.below } in
    subst Made (sym (block_scalar-ok (style_of byte) (chomping_of bytes) least at r x is))
    (scalar_whole at (block_text (style_of byte) (chomping_of bytes) (content_indent content) content) (block_text_whole byte (content_indent content) bytes content lines), settled_whole left (good.0, dropped_whole (length content) r.below good.1))

-- ---- scalars and flow forms

ended_made : (o : Outcome) → ((y : Tree × Rest) → o ≡ Ok y → Made y) → (x : Tree × Rest) → ended o ≡ Ok x → Made x
ended_made (Ok y) made x is =
    let s = settled-ok y.0 (end_line y.1) x is in
    let one = made y refl in
    subst Made (sym s.2) (one.0, ended_whole y.1 s.0 one.1 s.1)
ended_made (Err e) made x is = absurd (cc is)

module _ (least : ℕ) (from : Rest) (z : Tree × Rest) (good : IsWhole from) (made : Made z) (x : Tree × Rest) where
  same_made : ended (Ok z) ≡ Ok x → Made x
  same_made is = ended_made (Ok z) (λ y e. let same : z ≡ y = cc e in subst Made same made) x is

  quotes_ended : (single : Bool) (inner : Option (List ℕ)) → whole_form (quote_opening single inner) least from (Ok z) ≡ Ok x → Made x
  quotes_ended single None is = same_made is
  quotes_ended single (Some inner) is = same_made is

  begun_made : whole_form (opening false true from) least from (Ok z) ≡ Ok x → Made x
  begun_made = by from.here
    where
      by : (here : List ℕ) → whole_form (opening_of false true from.ragged here) least from (Ok z) ≡ Ok x → Made x
      by [] = λ is. same_made is
      by (byte ∷ bytes) =
          let P : _ → Type 0 = λ o. whole_form o least from (Ok z) ≡ Ok x → Made x in
          split P (byte == 34 || byte == 39) (λ h. quotes_ended (byte == 39) (inner_of (byte ∷ bytes)))
          (λ h. split P (byte == 91) (λ k is. same_made is)
          (λ k. split P (byte == 123) (λ l is. same_made is)
          (λ l. split P (byte == 38) (λ m is. same_made is)
          (λ m. split P (byte == 42) (λ n is. same_made is)
          (λ n. split P (byte == 33) (λ o is. same_made is)
          (λ o. split P (byte == 124 || byte == 62) (λ p. split P (is_header bytes) (λ q is. block_scalar_made byte bytes least (place from) z.1 x made.1 is) (λ q is. same_made is))
          (λ p. split P (begins_plain false (byte ∷ bytes)) (λ q is. ended_made (plain false least from) (λ y e. plain_made false least from y good e) x is)
          (λ q. split P (byte == 63 && before_blank from.ragged bytes) (λ r is. same_made is) (λ r is. same_made is)))))))))

whole_form_made : (least : ℕ) (from : Rest) (begun : Outcome) → IsWhole from → ((y : Tree × Rest) → begun ≡ Ok y → Made y) → (x : Tree × Rest) → whole_form (opening false true from) least from begun ≡ Ok x → Made x
whole_form_made least from (Err e) good made x is = absurd (no_form is)
  where
    no_form : whole_form (opening false true from) least from (Err e) ≡ Ok x → ⊥
    no_form k = cc k
whole_form_made least from (Ok z) good made x is = begun_made least from z good (made z refl) x is

line_value_made : (levels least : ℕ) → Makes (LineValue levels least)
line_value_made levels least from x good is =
    whole_form_made least from is.0 good (λ y e. form_made false true levels from y good (subst (Form false true levels from) e is.1)) x (sym is.2)

-- ---- lines below

empty_scalar_made : (levels : ℕ) (at : Rest) (x : Tree × Rest) → IsWhole at → empty_scalar levels at ≡ Ok x → Made x
empty_scalar_made zero at x good is = absurd (cc is)
empty_scalar_made (suc levels) at x good is = let e : (empty_at at, settle at) ≡ x = cc is in subst Made e (empty_whole at, settled_whole at good)

node_in_whole : (indent : ℕ) (lists : Bool) (at : Rest) (rows : List Row) (from : Rest) → AreWhole rows → node_in indent lists at rows ≡ Some from → IsWhole from
node_in_whole indent lists at [] from h is = absurd (cc is)
node_in_whole indent lists at (row ∷ rows) from h is =
    elim (chosen (begins_below indent lists row) _ _ _ is) [
      | inl k ↦ let e : front at row rows ≡ from = cc k.1 in subst IsWhole e h
      | inr k ↦ absurd (cc k.1)
    ]

-- a `-` stands first
abbrev IsItem : Rest → Type 0
IsItem r = IsWhole r × (begins 45 r.here ≡ true)

item_in_whole : (indent : ℕ) (left : Rest) (rows : List Row) (from : Rest) → AreWhole rows → item_in indent left rows ≡ Some from → IsItem from
item_in_whole indent left [] from h is = absurd (cc is)
item_in_whole indent left (row ∷ rows) from h is =
    elim (chosen (not (is_marker row) && row.indent == indent && is_item row.text) _ _ _ is) [
      | inl k ↦
          let e : front left row rows ≡ from = cc k.1 in
          let item : begins 45 row.text ≡ true = (and_parts (begins 45 row.text) (ends_word (drop 1 row.text)) (and_parts (not (is_marker row) && row.indent == indent) (is_item row.text) k.0).1).0 in
          subst IsItem e (h, item)
      | inr k ↦ absurd (cc k.1)
    ]

entry_in_whole : (indent : ℕ) (left : Rest) (rows : List Row) (from : Rest) → AreWhole rows → entry_in indent left rows ≡ Some from → IsWhole from
entry_in_whole indent left [] from h is = absurd (cc is)
entry_in_whole indent left (row ∷ rows) from h is =
    elim (chosen (not (is_marker row) && row.indent == indent) _ _ _ is) [
      | inl k ↦ let e : front left row rows ≡ from = cc k.1 in subst IsWhole e h
      | inr k ↦ absurd (cc k.1)
    ]

-- ---- items

item_then_passes : (item : Tree) (left : Rest) (o : Option Rest) → is_whole item ≡ true → IsWhole left → ((from : Rest) → o ≡ Some from → IsItem from) → Passes is_whole IsItem (item_then item left o)
item_then_passes item left (Some next) is good ready = (is, ready next refl)
item_then_passes item left None is good ready = (one_passes is_whole item is, good)

item_turn_passes : (indent : ℕ) (item : Outcome) → ((x : Tree × Rest) → item ≡ Ok x → Made x) → Passes is_whole IsItem (block_item_turn indent item)
item_turn_passes indent (Ok x) made = item_then_passes x.0 x.1 (item_in indent x.1 x.1.below) (made x refl).0 (made x refl).1 (λ from e. item_in_whole indent x.1 x.1.below from (made x refl).1.1 e)
item_turn_passes indent (Err e) made = tt

-- ---- entries, behind each of which the key of the next one may be read

-- a key of whole characters, and what is left behind its `:`
abbrev IsReady : Tree × Rest → Type 0
IsReady keyed = (is_whole keyed.0 ≡ true) × IsWhole keyed.1

either : (b : Bool) (t u : Turn Pair (Tree × Rest)) → (b ≡ true → Passes whole_pair IsReady t) → (b ≡ false → Passes whole_pair IsReady u) → Passes whole_pair IsReady (if b then t else u)
either true t u a b = a refl
either false t u a b = b refl

-- behind the `:` of a key
behind_colon : (to : Rest) → IsWhole to → is_colon (skip_blanks to).here ≡ true → IsWhole (on 1 (skip_blanks to))
behind_colon to good is = passed_whole 58 (skip_blanks to) (omega arith) (and_parts (begins 58 (skip_blanks to).here) (ends_word (drop 1 (skip_blanks to).here)) is).0 (skipped_whole to good)

key_then_passes : (pair : Pair) (from to : Rest) (key : Tree) → whole_pair pair ≡ true → is_whole key ≡ true → IsWhole to → Passes whole_pair IsReady (key_then pair from to key)
key_then_passes pair from to key is good left =
    either (from.line == to.line && is_colon (skip_blanks to).here) _ _ (λ h. (is, (good, behind_colon to left (and_parts (from.line == to.line) (is_colon (skip_blanks to).here) h).1))) (λ h. tt)

later_key_passes : (before : List Pair) (pair : Pair) (from : Rest) (key : Outcome) → whole_pair pair ≡ true → ((x : Tree × Rest) → key ≡ Ok x → Made x) → Passes whole_pair IsReady (later_key before pair from key)
later_key_passes before pair from (Ok x) is made = either (stands_before x.0 (before ++ pair ∷ [])) _ _ (λ h. tt) (λ h. key_then_passes pair from x.1 x.0 is (made x refl).0 (made x refl).1)
later_key_passes before pair from (Err e) is made = tt

next_entry_passes : (levels : ℕ) (before : List Pair) (pair : Pair) (left : Rest) (o : Option Rest) → whole_pair pair ≡ true → IsWhole left → ((from : Rest) → o ≡ Some from → IsWhole from) → (turn : Turn Pair (Tree × Rest)) → NextEntry levels before pair left o turn → Passes whole_pair IsReady turn
next_entry_passes levels before pair left None is good ready turn t = subst (Passes whole_pair IsReady) (sym t) (one_passes whole_pair pair is, good)
next_entry_passes levels before pair left (Some from) is good ready turn t =
    subst (Passes whole_pair IsReady) (sym t.2) (later_key_passes before pair from t.0 is (λ x e. form_made false false levels from x (ready from refl) (subst (Form false false levels from) e t.1)))

after_value_passes : (levels indent : ℕ) (before : List Pair) (key : Tree) (value : Outcome) → is_whole key ≡ true → ((x : Tree × Rest) → value ≡ Ok x → Made x) → (turn : Turn Pair (Tree × Rest)) → AfterValue levels indent before key value turn → Passes whole_pair IsReady turn
after_value_passes levels indent before key (Err e) is made turn t = subst (Passes whole_pair IsReady) (sym t) tt
after_value_passes levels indent before key (Ok x) is made turn t =
    next_entry_passes levels before (entry key x.0) x.1 (entry_in indent x.1 x.1.below) (entry_whole key x.0 is (made x refl).0) (made x refl).1 (λ from e. entry_in_whole indent x.1 x.1.below from (made x refl).1.1 e) turn t

-- ---- nodes

abbrev MakesBlocks : BlockReading → Type 0
MakesBlocks Node = (least : ℕ) → Makes (Node least)

module _ (Node : BlockReading) (makes : MakesBlocks Node) (levels : ℕ) where
  below_of_made : (indent : ℕ) (at : Rest) (o : Option Rest) → IsWhole at → ((from : Rest) → o ≡ Some from → IsWhole from) → (x : Tree × Rest) → BelowOf Node levels indent at o (Ok x) → Made x
  below_of_made indent at (Some from) good found x is = makes (indent + 1) from x (found from refl) is
  below_of_made indent at None good found x is = empty_scalar_made levels at x good (sym is)

  below_made : (indent : ℕ) (lists : Bool) → Makes (Below Node levels indent lists)
  below_made indent lists at x good is =
      below_of_made indent at (node_in indent lists at (from_content at.below)) good (λ from e. node_in_whole indent lists at (from_content at.below) from (content_whole at.below good.1) e) x is

  item_made : (indent : ℕ) → Makes (Item Node levels indent)
  item_made indent at x good is =
      elim (which (is_clear at.here) _ _ is) [
        | inl h ↦ below_made indent false at x good h.1
        | inr h ↦ makes (indent + 1) (skip_blanks at) x (skipped_whole at good) h.1
      ]

  value_made : (indent : ℕ) → Makes (Value Node levels indent)
  value_made indent at x good is =
      elim (which (is_clear at.here) _ _ is) [
        | inl h ↦ below_made indent true at x good h.1
        | inr h ↦ line_value_made levels (indent + 1) (skip_blanks at) x (skipped_whole at good) h.1
      ]

  item_turns_pass : (indent : ℕ) (before : List Tree) (from : Rest) (turn : Turn Tree Rest) → IsItem from → ItemTurn Node levels indent before from turn → Passes is_whole IsItem turn
  item_turns_pass indent before from turn ready is =
      subst (Passes is_whole IsItem) (sym is.2) (item_turn_passes indent is.0 (λ x e. item_made indent (on 1 from) x (passed_whole 45 from (omega arith) ready.1 ready.0) (subst (Item Node levels indent (on 1 from)) e is.1)))

  block_list_made : (from : Rest) (x : Tree × Rest) → IsItem from → BlockList Node levels from (Ok x) → Made x
  block_list_made from x ready is =
      let m = list_made-ok (place from) is.0 x (sym is.2) in
      let all = repeats_pass is_whole IsItem (ItemTurn Node levels (from.column - 1)) (item_turns_pass (from.column - 1)) from m.0 ready (subst (Repeats (ItemTurn Node levels (from.column - 1)) from) m.1 is.1) in
      subst Made (sym m.2) (list_whole (place from) m.0.0 all.0, all.1)

  entry_turns_pass : (indent : ℕ) (before : List Pair) (keyed : Tree × Rest) (turn : Turn Pair (Tree × Rest)) → IsReady keyed → EntryTurn Node levels indent before keyed turn → Passes whole_pair IsReady turn
  entry_turns_pass indent before keyed turn ready is =
      after_value_passes levels indent before keyed.0 is.0 ready.0 (λ x e. value_made indent keyed.1 x ready.1 (subst (Value Node levels indent keyed.1) e is.1)) turn is.2

  block_map_made : (from : Rest) (key : Tree) (behind : Rest) (x : Tree × Rest) → is_whole key ≡ true → IsWhole behind → BlockMap Node levels from key behind (Ok x) → Made x
  block_map_made from key behind x good left is =
      let m = map_made-ok (place from) is.0 x (sym is.2) in
      let all = repeats_pass whole_pair IsReady (EntryTurn Node levels (from.column - 1)) (entry_turns_pass (from.column - 1)) (key, behind) m.0 (good, left) (subst (Repeats (EntryTurn Node levels (from.column - 1)) (key, behind)) m.1 is.1) in
      subst Made (sym m.2) (map_whole (place from) m.0.0 all.0, all.1)

  first_key_made : (from : Rest) (key : Tree) (to : Rest) (deep : Option Place) (x : Tree × Rest) → is_whole key ≡ true → IsWhole (on 1 (skip_blanks to)) → FirstKey Node levels from key to deep (Ok x) → Made x
  first_key_made from key to (Some deep) x good left is = absurd (cc is)
  first_key_made from key to None x good left is = block_map_made from key (on 1 (skip_blanks to)) x good left is

  after_form_made : (least : ℕ) (from : Rest) (begun : Outcome) → IsWhole from → ((y : Tree × Rest) → begun ≡ Ok y → Made y) → (x : Tree × Rest) → AfterForm Node levels least from begun (Ok x) → Made x
  after_form_made least from (Err e) good made x is = absurd (cc is)
  after_form_made least from (Ok y) good made x is =
      elim (which (is_block_key from y.1) _ _ is) [
        | inl h ↦ first_key_made from y.0 y.1 (deep_place y.0 levels) x (made y refl).0 (behind_colon y.1 (made y refl).1 (and_parts _ (is_colon (skip_blanks y.1).here) h.0).1) h.1
        | inr h ↦ whole_form_made least from (Ok y) good made x (sym h.1)
      ]

pub node_made : (levels : ℕ) → MakesBlocks (BlockNode levels)
node_made zero least from x good is =
    elim (which (is_item from.here) _ _ is) [
      | inl h ↦ absurd (cc h.1)
      | inr h ↦ absurd (cc h.1)
    ]
node_made (suc levels) least from x good is =
    elim (which (is_item from.here) _ _ is) [
      | inl h ↦ block_list_made (BlockNode levels) (node_made levels) levels from x (good, (and_parts (begins 45 from.here) (ends_word (drop 1 from.here)) h.0).0) h.1
      | inr h ↦ after_form_made (BlockNode levels) (node_made levels) levels least from h.1.0 good (λ y e. form_made false true (suc levels) from y good (subst (Form false true (suc levels) from) e h.1.1)) x h.1.2
    ]
