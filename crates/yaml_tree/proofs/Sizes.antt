-- How much is left of a text, and that reading takes some of it.
use Rattle.std.proofs.Common.{◌≡◌, ℕ, zero, suc, ◌+◌, ◌-◌, ◌≤◌, ◌<◌, Bool, true, false, not, ◌&&◌, ◌||◌, ◌==◌, if◌then◌else◌, inl, inr, List, [], ◌∷◌, ◌++◌, length, take, drop, get_or, reverse, replicate, Option, None, Some, Result, Ok, Err, refl, sym, ap, ◌∙◌, subst, arith, length-drop, length-append, length-take}
use Rattle.std.specs.Prelude.{◌⊎◌, MatchBool}
use Rattle.std.specs.List.{find, prefix_len, suffix_len}
use Rattle.std.proofs.lemmas.Bool.{cases_lt}
use Rattle.std.proofs.lemmas.Bool.Decides.{nat_tests}
use Rattle.std.proofs.lemmas.List.{length-replicate, get_or-reverse}
use Rattle.std.proofs.lemmas.List.Sums.{prefix_len_passes}
use Rattle.dp_base.specs.Bytes.{is_blank}
use Rattle.yaml_tree.specs.Rest.{Row, Rest, place, on, skip_blanks, front}
use Rattle.yaml_tree.specs.Characters.{begins, begins_plain, is_clear, is_item, is_colon}
use Rattle.yaml_tree.specs.Lines.{is_empty, has_content, from_content, is_marker, flow_below, flow_point, settle, end_line}
use Rattle.yaml_tree.specs.Scalars.{inner_of, ends_before, run_of, part_of, break_text, goes_on, with_text, lines_added, added, scalar_at, plain, plain_part, quoted_to, quoted, text_within}
use Rattle.yaml_tree.specs.Openings.{quote_opening, before_blank, style_of, chomping_of, is_header, header_opening, opening_with, opening_of, opening}
use Rattle.yaml_tree.specs.BlockScalars.{content_of, content_indent, is_shallow, block_text, with_content, block_scalar}
use Rattle.yaml_tree.specs.declared.header.Style.{Style}
use Rattle.yaml_tree.specs.declared.header.Chomping.{Chomping}
use Rattle.yaml_tree.specs.Keys.{stands_before, deep_place}
use Rattle.yaml_tree.specs.Repeats.{Turn, More, Last, Refused, InTurn, EndsWith, Repeats}
use Rattle.yaml_tree.specs.Flow.{Outcome, Reading, next_turn, item_ends, item_turn, ListTurn, list_made, FromNext, ListForm, header_line, entry, empty_at, ends_entry, entry_ends, entry_turn, value_turn, ValueTurn, KeyTurn, AfterKey, MapTurn, map_made, MapForm, FormOf, Form, is_keyed}
use Rattle.yaml_tree.specs.Blocks.{BlockReading, begins_below, settled, ended, whole_form, LineValue, empty_scalar, node_in, BelowOf, Below, Item, item_in, item_then, ItemTurn, BlockList, Value, entry_in, key_then, later_key, NextEntry, AfterValue, EntryTurn, BlockMap, is_block_key, FirstKey, AfterForm, BlockNode, block_item_turn}
use Rattle.yaml_tree.specs.declared.opening.Opening.{Opening}
use Rattle.yaml_tree.specs.declared.opening.Opening.TheVariants.{Plain, Quoted, OpenQuote, FlowList, FlowMap, Header, Outside, Nothing}
use Rattle.yaml_tree.specs.declared.tree.Tree.{Tree}
use Rattle.yaml_tree.specs.declared.tree.Tree.TheVariants as trees
use Rattle.yaml_tree.specs.declared.tree.Pair.{Pair}
use Rattle.yaml_tree.specs.declared.tree.YamlEnd.{YamlEnd}
use Rattle.dp_base.specs.declared.place.Place.{Place}
use Rattle.yaml_tree.specs.declared.tree.Feature.TheVariants.{Anchor, Alias, Tag, QuestionKey, BlockScalar}

-- ---- how much is left: the bytes, and for each line below one more and its indent

abbrev pub rows_size : List Row → ℕ
rows_size [] = 0
rows_size (row ∷ rows) = 1 + row.indent + length row.text + rows_size rows

abbrev pub size : Rest → ℕ
size r = length r.here + rows_size r.below

-- ---- tests

-- which way a choice went
pub chosen : {A : Type 0} (b : Bool) (x y z : A) → (if b then x else y) ≡ z → ((b ≡ true) × (x ≡ z)) ⊎ ((b ≡ false) × (y ≡ z))
chosen true x y z is = inl (refl, is)
chosen false x y z is = inr (refl, is)

-- the same of a choice between two facts
pub which : (b : Bool) (P Q : Type 0) → MatchBool b P Q → ((b ≡ true) × P) ⊎ ((b ≡ false) × Q)
which true P Q is = inl (refl, is)
which false P Q is = inr (refl, is)

pub begins-some : (byte : ℕ) (bytes : List ℕ) → begins byte bytes ≡ true → 0 < length bytes
begins-some byte [] is = absurd cc
begins-some byte (first ∷ bytes) is = omega arith

-- ---- steps in a line and below it

pub on-size : (n : ℕ) (r : Rest) → size (on n r) ≤ size r
on-size n r = omega (arith, length-drop n r.here)

pub on-shortens : (n : ℕ) (r : Rest) → 0 < n → 0 < length r.here → size (on n r) < size r
on-shortens n r some here = omega (arith, length-drop n r.here)

pub skip_blanks-size : (r : Rest) → size (skip_blanks r) ≤ size r
skip_blanks-size r = on-size (prefix_len is_blank r.here) r

pub from_content-size : (rows : List Row) → rows_size (from_content rows) ≤ rows_size rows
from_content-size [] = omega arith
from_content-size (row ∷ rows) = step (has_content row) (from_content-size rows) where
  step : (b : Bool) → rows_size (from_content rows) ≤ rows_size rows → rows_size (if b then row ∷ rows else from_content rows) ≤ rows_size (row ∷ rows)
  step true less = omega arith
  step false less = omega arith

pub front-size : (r : Rest) (row : Row) (rows : List Row) → size (front r row rows) < rows_size (row ∷ rows)
front-size r row rows = omega arith

-- a first line among those that are left from the next one with content on
pub front_below-size : (r at : Rest) (row : Row) (rows : List Row) → row ∷ rows ≡ from_content at.below → size (front r row rows) < size at
front_below-size r at row rows is =
    let l : rows_size (row ∷ rows) ≡ rows_size (from_content at.below) = ap rows_size is in
    omega (arith, from_content-size at.below)

flow_below-size : (r q : Rest) (rows : List Row) → flow_below r rows ≡ Ok q → size q < rows_size rows
flow_below-size r q [] is = absurd cc
flow_below-size r q (row ∷ rows) is =
    elim (chosen (is_marker row) _ _ _ is) [
      | inl h ↦ absurd (cc h.1)
      | inr h ↦ let e : front r row rows ≡ q = cc h.1 in rw (← e) (omega arith)
    ]

pub flow_point-size : (r q : Rest) → flow_point r ≡ Ok q → size q ≤ size r
flow_point-size r q is =
    elim (chosen (is_clear r.here) _ _ _ is) [
      | inl h ↦ omega (arith, flow_below-size r q (from_content r.below) h.1, from_content-size r.below)
      | inr h ↦ let e : skip_blanks r ≡ q = cc h.1 in rw (← e) (skip_blanks-size r)
    ]

pub settle-size : (r : Rest) → size (settle r) ≤ size r
settle-size r = omega (arith, from_content-size r.below)

pub end_line-size : (r q : Rest) → end_line r ≡ Ok q → size q ≤ size r
end_line-size r q is =
    elim (chosen (is_clear r.here) _ _ _ is) [
      | inl h ↦ let e : settle r ≡ q = cc h.1 in rw (← e) (settle-size r)
      | inr h ↦ absurd (cc h.1)
    ]

-- ---- plain scalars

-- what begins a plain scalar is no blank, and does not end it
plain_first : (flow : Bool) (byte : ℕ) (bytes : List ℕ) → begins_plain flow (byte ∷ bytes) ≡ true → (is_blank byte ≡ false) × (ends_before flow false byte bytes ≡ false)
plain_first flow byte bytes is = grind (arith, nat_tests)

-- not all of a list is trimmed whose first element stays
suffix_stops : (p : ℕ → Bool) (x : ℕ) (xs : List ℕ) → p x ≡ false → suffix_len p (x ∷ xs) < length (x ∷ xs)
suffix_stops p x xs stays =
    elim (cases_lt (suffix_len p (x ∷ xs)) (length (x ∷ xs))) [
      | inl h ↦ h
      | inr h ↦
          let all : p (get_or (reverse (x ∷ xs)) (length xs) 0) ≡ true = prefix_len_passes p (reverse (x ∷ xs)) (length xs) 0 (omega arith) in
          let at : get_or (reverse (x ∷ xs)) (length xs) 0 ≡ get_or (x ∷ xs) (length (x ∷ xs) - 1 - length xs) 0 = get_or-reverse (x ∷ xs) (length xs) 0 (omega arith) in
          let none : length (x ∷ xs) - 1 - length xs ≡ 0 = omega arith in
          let here : get_or (x ∷ xs) (length (x ∷ xs) - 1 - length xs) 0 ≡ x = ap (λ (k : ℕ). get_or (x ∷ xs) k 0) none in
          let same : p x ≡ true = ap p (sym here ∙ sym at) ∙ all in
          absurd (cc (sym stays ∙ same))
    ]

run_of-length : (flow behind : Bool) (bytes : List ℕ) → length (run_of flow behind bytes) ≤ length bytes
unfolding run_of
run_of-length flow behind [] = omega arith
run_of-length flow behind (byte ∷ bytes) = step (ends_before flow behind byte bytes) (run_of-length flow (is_blank byte) bytes) where
  step : (b : Bool) → length (run_of flow (is_blank byte) bytes) ≤ length bytes → length (if b then [] else byte ∷ run_of flow (is_blank byte) bytes) ≤ suc (length bytes)
  step true less = omega arith
  step false less = omega arith

pub part_of-length : (flow : Bool) (bytes : List ℕ) → length (part_of flow bytes) ≤ length bytes
part_of-length flow bytes = omega (arith, length-take (length (run_of flow false bytes) - suffix_len is_blank (run_of flow false bytes)) (run_of flow false bytes), run_of-length flow false bytes)

trim_some : (byte : ℕ) (bytes : List ℕ) → is_blank byte ≡ false → 0 < length (take (length (byte ∷ bytes) - suffix_len is_blank (byte ∷ bytes)) (byte ∷ bytes))
trim_some byte bytes stays = omega (arith, length-take (length (byte ∷ bytes) - suffix_len is_blank (byte ∷ bytes)) (byte ∷ bytes), suffix_stops is_blank byte bytes stays)

run_of-first : (flow : Bool) (byte : ℕ) (bytes : List ℕ) → ends_before flow false byte bytes ≡ false → run_of flow false (byte ∷ bytes) ≡ byte ∷ run_of flow (is_blank byte) bytes
unfolding run_of
run_of-first flow byte bytes stays = ap (λ (b : Bool). if b then [] else byte ∷ run_of flow (is_blank byte) bytes) stays

pub part_of-some : (flow : Bool) (bytes : List ℕ) → begins_plain flow bytes ≡ true → 0 < length (part_of flow bytes)
part_of-some flow [] is = absurd cc
part_of-some flow (byte ∷ bytes) is =
    let stays : (is_blank byte ≡ false) × (ends_before flow false byte bytes ≡ false) = plain_first flow byte bytes is in
    subst (λ (run : List ℕ). 0 < length (take (length run - suffix_len is_blank run) run)) (sym (run_of-first flow byte bytes stays.1)) (trim_some byte (run_of flow (is_blank byte) bytes) stays.0)

-- a text and what is left behind it take no more than stood at a point
abbrev pub Takes : Rest → List ℕ × Rest → Type 0
Takes r x = length x.0 + size x.1 ≤ size r

break_text-length : (blanks : ℕ) → length (break_text blanks) ≤ 1 + blanks
break_text-length blanks = step (blanks == 0) where
  step : (b : Bool) → length {A = ℕ} (if b then 32 ∷ [] else replicate blanks 10) ≤ 1 + blanks
  step true = omega arith
  step false = omega (arith, length-replicate {A = ℕ} blanks 10)

-- where a text goes in front, one goes on behind it
pub with_text-ok : (text : List ℕ) (o : Result (List ℕ × Rest) YamlEnd) (x : List ℕ × Rest) → with_text text o ≡ Ok x → (y : List ℕ × Rest) × (o ≡ Ok y) × (x ≡ (text ++ y.0, y.1))
with_text-ok text (Ok y) x is = (y, refl, cc)
with_text-ok text (Err e) x is = absurd cc

nothing_added : (r : Rest) (x : List ℕ × Rest) → ◌≡◌ {A = Result (List ℕ × Rest) YamlEnd} (Ok ([], r)) (Ok x) → Takes r x
nothing_added r x is = let e : ([], r) ≡ x = cc in rw (← e) (omega arith)

-- where a line ends that is one of a plain scalar's
abbrev line_end : (flow : Bool) (r : Rest) (row : Row) (rows : List Row) → Rest
line_end flow r row rows = on (length (part_of flow row.text)) (front r row rows)

-- A line of a plain scalar takes a break, the line's part, and what is added behind it.
line_added : (flow : Bool) (r : Rest) (blanks : ℕ) (row : Row) (rows : List Row) (more : Result (List ℕ × Rest) YamlEnd) (x : List ℕ × Rest)
    → blanks + rows_size (row ∷ rows) ≤ rows_size r.below
    → ((y : List ℕ × Rest) → more ≡ Ok y → Takes (line_end flow r row rows) y)
    → with_text (break_text blanks ++ part_of flow row.text) (if is_empty (line_end flow r row rows).here then more else Ok ([], line_end flow r row rows)) ≡ Ok x → Takes r x
line_added flow r blanks row rows more x fits takes is =
    let w = with_text-ok (break_text blanks ++ part_of flow row.text) (if is_empty (line_end flow r row rows).here then more else Ok ([], line_end flow r row rows)) x is in
    let t : Takes (line_end flow r row rows) w.0 = elim (chosen (is_empty (line_end flow r row rows).here) more (Ok ([], line_end flow r row rows)) (Ok w.0) w.1) [
      | inl n ↦ takes w.0 n.1
      | inr n ↦ nothing_added (line_end flow r row rows) w.0 n.1
    ] in
    rw w.2 (omega (arith, t, length-append (break_text blanks ++ part_of flow row.text) w.0.0, length-append (break_text blanks) (part_of flow row.text), break_text-length blanks, part_of-length flow row.text, length-drop (length (part_of flow row.text)) row.text))

lines_added-takes : (flow : Bool) (least : ℕ) (r : Rest) (blanks : ℕ) (rows : List Row) (x : List ℕ × Rest) → blanks + rows_size rows ≤ rows_size r.below → lines_added flow least r blanks rows ≡ Ok x → Takes r x
unfolding lines_added
lines_added-takes flow least r blanks [] x fits is = nothing_added r x is
lines_added-takes flow least r blanks (row ∷ rows) x fits is =
    elim (chosen (is_empty row.text) _ _ _ is) [
      | inl h ↦ lines_added-takes flow least r (suc blanks) rows x (omega arith) h.1
      | inr h ↦ elim (chosen (not (goes_on flow least row)) _ _ _ h.1) [
        | inl k ↦ nothing_added r x k.1
        | inr k ↦ elim (chosen (is_marker row) _ _ _ k.1) [
          | inl l ↦ absurd (cc l.1)
          | inr l ↦ elim (chosen (is_empty (part_of flow row.text)) _ _ _ l.1) [
            | inl m ↦ nothing_added r x m.1
            | inr m ↦
                line_added flow r blanks row rows (lines_added flow least (line_end flow r row rows) 0 rows) x fits
                (λ y e. lines_added-takes flow least (line_end flow r row rows) 0 rows y (omega arith) e) m.1
          ]
        ]
      ]
    ]

added-takes : (flow : Bool) (least : ℕ) (r : Rest) (x : List ℕ × Rest) → added flow least r ≡ Ok x → Takes r x
added-takes flow least r x is =
    elim (chosen (is_empty r.here) _ _ _ is) [
      | inl h ↦ lines_added-takes flow least r 0 r.below x (omega arith) h.1
      | inr h ↦ nothing_added r x h.1
    ]

-- what a plain scalar takes: its part of the first line, and what is added to it
abbrev pub plain_text : (flow : Bool) (least : ℕ) → Rest → Result (List ℕ × Rest) YamlEnd
plain_text flow least r = with_text (part_of flow r.here) (added flow least (on (length (part_of flow r.here)) r))

pub plain_text-takes : (flow : Bool) (least : ℕ) (r : Rest) (x : List ℕ × Rest) → plain_text flow least r ≡ Ok x → Takes r x
plain_text-takes flow least r x is =
    let w = with_text-ok (part_of flow r.here) (added flow least (on (length (part_of flow r.here)) r)) x is in
    let t = added-takes flow least (on (length (part_of flow r.here)) r) w.0 w.1 in
    rw w.2 (omega (arith, t, length-append (part_of flow r.here) w.0.0, part_of-length flow r.here, length-drop (length (part_of flow r.here)) r.here))

pub plain_text-some : (flow : Bool) (least : ℕ) (r : Rest) (x : List ℕ × Rest) → begins_plain flow r.here ≡ true → plain_text flow least r ≡ Ok x → size x.1 < size r
plain_text-some flow least r x begins is =
    let w = with_text-ok (part_of flow r.here) (added flow least (on (length (part_of flow r.here)) r)) x is in
    let t = added-takes flow least (on (length (part_of flow r.here)) r) w.0 w.1 in
    rw w.2 (omega (arith, t, part_of-some flow r.here begins, part_of-length flow r.here, length-drop (length (part_of flow r.here)) r.here))

-- ---- scalars

pub scalar_at-ok : (r : Rest) (o : Result (List ℕ × Rest) YamlEnd) (x : Tree × Rest) → scalar_at r o ≡ Ok x → (y : List ℕ × Rest) × (o ≡ Ok y) × (x ≡ (trees.Scalar (place r) y.0, y.1))
scalar_at-ok r (Ok y) x is = (y, refl, cc)
scalar_at-ok r (Err e) x is = absurd cc

pub plain-shortens : (flow : Bool) (least : ℕ) (from : Rest) (x : Tree × Rest) → begins_plain flow from.here ≡ true → plain flow least from ≡ Ok x → size x.1 < size from
plain-shortens flow least from x begins is =
    let s = scalar_at-ok from (plain_text flow least from) x is in
    rw s.2 (plain_text-some flow least from s.0 begins s.1)

pub plain_part-shortens : (from : Rest) (x : Tree × Rest) → begins_plain false from.here ≡ true → plain_part from ≡ Ok x → size x.1 < size from
plain_part-shortens from x begins is =
    let e : (trees.Scalar (place from) (part_of false from.here), on (length (part_of false from.here)) from) ≡ x = cc in
    rw (← e) (omega (arith, part_of-some false from.here begins, part_of-length false from.here, length-drop (length (part_of false from.here)) from.here))

pub quoted_to-ok : (r : Rest) (inside : ℕ) (o : Result (List ℕ) ℕ) (x : Tree × Rest) → quoted_to r inside o ≡ Ok x → (text : List ℕ) × (o ≡ Ok text) × (x ≡ (trees.Scalar (place r) text, on (inside + 2) r))
quoted_to-ok r inside (Ok text) x is = (text, refl, cc)
quoted_to-ok r inside (Err at) x is = absurd cc

pub quoted-shortens : (from : Rest) (single : Bool) (inside : ℕ) (x : Tree × Rest) → 0 < length from.here → quoted from single inside ≡ Ok x → size x.1 < size from
quoted-shortens from single inside x some is =
    let s = quoted_to-ok from inside (text_within single (take inside (drop 1 from.here))) x is in
    rw s.2 (on-shortens (inside + 2) from (omega arith) some)

-- ---- what begins

no_plain_quote : (single : Bool) (inner : Option (List ℕ)) → quote_opening single inner ≡ Plain → ⊥
no_plain_quote single (Some inner) is = cc
no_plain_quote single None is = cc

no_plain_map : (maps : Bool) → (if maps then FlowMap else Nothing) ≡ Plain → ⊥
no_plain_map true is = cc
no_plain_map false is = cc

no_plain_header : (b : Bool) (style : Style) (chomping : Chomping) → (if b then Header style chomping else Outside BlockScalar) ≡ Plain → ⊥
no_plain_header true style chomping is = cc
no_plain_header false style chomping is = cc

no_plain_end : (b : Bool) → (if b then Outside QuestionKey else Nothing) ≡ Plain → ⊥
no_plain_end true is = cc
no_plain_end false is = cc

-- past a choice whose first side is no plain scalar
past : (b : Bool) (x y : Opening) → (x ≡ Plain → ⊥) → (if b then x else y) ≡ Plain → y ≡ Plain
past true x y other is = absurd (other is)
past false x y other is = is

opening_with-plain : (flow maps ragged : Bool) (byte : ℕ) (bytes : List ℕ) → opening_with flow maps ragged byte bytes ≡ Plain → begins_plain flow (byte ∷ bytes) ≡ true
opening_with-plain flow maps ragged byte bytes is =
    let a = past (byte == 34 || byte == 39) (quote_opening (byte == 39) (inner_of (byte ∷ bytes))) _ (no_plain_quote (byte == 39) (inner_of (byte ∷ bytes))) is in
    let b = past (byte == 91) FlowList _ (λ e. cc) a in
    let c = past (byte == 123) (if maps then FlowMap else Nothing) _ (λ e. no_plain_map maps e) b in
    let d = past (byte == 38) (Outside Anchor) _ (λ e. cc) c in
    let f = past (byte == 42) (Outside Alias) _ (λ e. cc) d in
    let g = past (byte == 33) (Outside Tag) _ (λ e. cc) f in
    let h = past (byte == 124 || byte == 62) (header_opening flow maps byte bytes) _ (λ e. no_plain_header (not flow && maps && is_header bytes) (style_of byte) (chomping_of bytes) e) g in
    elim (chosen (begins_plain flow (byte ∷ bytes)) Plain _ Plain h) [
      | inl k ↦ k.0
      | inr k ↦ absurd (no_plain_end (byte == 63 && before_blank ragged bytes) k.1)
    ]

pub opening-plain : (flow maps : Bool) (r : Rest) → opening flow maps r ≡ Plain → begins_plain flow r.here ≡ true
opening-plain flow maps r is = of r.here is where
  of : (here : List ℕ) → opening_of flow maps r.ragged here ≡ Plain → begins_plain flow here ≡ true
  of [] e = absurd (cc e)
  of (byte ∷ bytes) e = opening_with-plain flow maps r.ragged byte bytes e

pub opening-some : (flow maps : Bool) (r : Rest) (o : Opening) → opening flow maps r ≡ o → (o ≡ Nothing → ⊥) → 0 < length r.here
opening-some flow maps r o is not_nothing = of r.here is where
  of : (here : List ℕ) → opening_of flow maps r.ragged here ≡ o → 0 < length here
  of [] e = absurd (not_nothing (sym e))
  of (byte ∷ bytes) e = omega arith

-- ---- turns

-- A turn leaves less than n, by a measure of where turns begin. The last one leaves less by so many.
abbrev pub Leaves : {A S : Type 0} → (S → ℕ) → (taken n : ℕ) → Turn A S → Type 0
Leaves measure taken n (More x next) = measure next < n
Leaves measure taken n (Last xs left) = taken + size left ≤ n
Leaves measure taken n (Refused e) = Unit {0}

abbrev pub TurnsShorten : {A S : Type 0} → (S → ℕ) → (taken : ℕ) → (List A → S → Turn A S → Type 0) → Type 0
TurnsShorten {A} {S} measure taken OneTurn = (before : List A) (from : S) (turn : Turn A S) → OneTurn before from turn → Leaves measure taken (measure from) turn

module _ {A S : Type 0} (measure : S → ℕ) (taken : ℕ) (OneTurn : List A → S → Turn A S → Type 0) (shorten : TurnsShorten measure taken OneTurn) where
  pub in_turn-size : (before : List A) (from : S) (xs : List A) (at : S) → InTurn OneTurn before from xs at → measure at ≤ measure from
  in_turn-size before from [] at is = let e : measure from ≡ measure at = ap measure is in omega arith
  in_turn-size before from (x ∷ xs) at is =
      let a = shorten before from (More x is.0) is.1 in
      let b = in_turn-size (before ++ x ∷ []) is.0 xs at is.2 in
      omega (arith, a, b)

  pub in_turn-shortens : (before : List A) (from : S) (x : A) (xs : List A) (at : S) → InTurn OneTurn before from (x ∷ xs) at → measure at < measure from
  in_turn-shortens before from x xs at is =
      let a = shorten before from (More x is.0) is.1 in
      let b = in_turn-size (before ++ x ∷ []) is.0 xs at is.2 in
      omega (arith, a, b)

  ends-size : (n : ℕ) (xs : List A) (end : Turn A S) (x : List A × Rest) → Leaves measure taken n end → EndsWith xs end (Ok x) → taken + size x.1 ≤ n
  ends-size n xs (More y next) x leaves is = absurd is
  ends-size n xs (Last ys left) x leaves is = let e : x ≡ (xs ++ ys, left) = cc in rw e leaves
  ends-size n xs (Refused e) x leaves is = absurd cc

  pub repeats-size : (from : S) (x : List A × Rest) → Repeats OneTurn from (Ok x) → taken + size x.1 ≤ measure from
  repeats-size from x is =
      let a = in_turn-size [] from is.read is.at is.in_turn in
      let b = ends-size (measure is.at) is.read is.end x (shorten is.read is.at is.end is.last) is.ends in
      omega (arith, a, b)

-- whichever of two turns it is
either : {A S : Type 0} (measure : S → ℕ) (taken n : ℕ) (b : Bool) (t u : Turn A S) → Leaves measure taken n t → Leaves measure taken n u → Leaves measure taken n (if b then t else u)
either measure taken n true t u a b = a
either measure taken n false t u a b = b

pub leaves-le : {A S : Type 0} (measure : S → ℕ) (taken n m : ℕ) → n ≤ m → (turn : Turn A S) → Leaves measure taken n turn → Leaves measure taken m turn
leaves-le measure taken n m le (More x next) leaves = omega arith
leaves-le measure taken n m le (Last xs left) leaves = omega arith
leaves-le measure taken n m le (Refused e) leaves = tt

-- ---- flow forms

abbrev pub Shortens : Reading → Type 0
Shortens Node = (from : Rest) (x : Tree × Rest) → Node from (Ok x) → size x.1 < size from

next_turn-leaves : {A : Type 0} (n : ℕ) (x : A) (o : Result Rest YamlEnd) → ((q : Rest) → o ≡ Ok q → size q < n) → Leaves size 1 n (next_turn x o)
next_turn-leaves n x (Ok q) less = less q refl
next_turn-leaves n x (Err e) less = tt

-- behind a `,` the next turn begins
pub comma-leaves : {A : Type 0} (n : ℕ) (x : A) (next : Rest) → size next < n → Leaves size 1 n (next_turn x (flow_point (on 1 next)))
comma-leaves n x next less = next_turn-leaves n x (flow_point (on 1 next)) (λ q is. omega (arith, flow_point-size (on 1 next) q is, on-size 1 next))

item_ends-leaves : (n : ℕ) (from : Rest) (item : Tree) (to : Rest) (o : Result Rest YamlEnd) → ((q : Rest) → o ≡ Ok q → size q < n) → Leaves size 1 n (item_ends from item to o)
item_ends-leaves n from item to (Err e) less = tt
item_ends-leaves n from item to (Ok next) less =
    either size 1 n (begins 44 next.here) _ _ (comma-leaves n item next (less next refl))
    (either size 1 n (begins 93 next.here) _ _ (omega (arith, less next refl, on-size 1 next))
    (either size 1 n (is_keyed from to next) _ _ tt tt))

item_turn-leaves : (n : ℕ) (from : Rest) (item : Outcome) → ((x : Tree × Rest) → item ≡ Ok x → size x.1 < n) → Leaves size 1 n (item_turn from item)
item_turn-leaves n from (Ok x) less = item_ends-leaves n from x.0 x.1 (flow_point x.1) (λ q is. omega (arith, flow_point-size x.1 q is, less x refl))
item_turn-leaves n from (Err e) less = tt

pub list_turn-shortens : (Node : Reading) → Shortens Node → TurnsShorten size 1 (ListTurn Node)
list_turn-shortens Node shortens before from turn is =
    elim (which (begins 93 from.here) _ _ is) [
      | inl h ↦ rw h.1 (omega (arith, on-shortens 1 from (omega arith) (begins-some 93 from.here h.0)))
      | inr h ↦ rw h.1.2 (item_turn-leaves (size from) from h.1.0 (λ x e. shortens from x (subst (Node from) e h.1.1)))
    ]

from_next-shortens : {A : Type 0} (OneTurn : List A → Rest → Turn A Rest → Type 0) → TurnsShorten size 1 OneTurn → (from : Rest) (o : Result Rest YamlEnd) → ((q : Rest) → o ≡ Ok q → size q ≤ size from) → (x : List A × Rest) → FromNext OneTurn o (Ok x) → size x.1 < size from
from_next-shortens OneTurn shorten from (Ok next) less x is = omega (arith, repeats-size size 1 OneTurn shorten next x is, less next refl)
from_next-shortens OneTurn shorten from (Err e) less x is = absurd (cc is)

pub list_made-ok : (at : Place) (o : Result (List Tree × Rest) YamlEnd) (x : Tree × Rest) → list_made at o ≡ Ok x → (y : List Tree × Rest) × (o ≡ Ok y) × (x ≡ (trees.List at y.0, y.1))
list_made-ok at (Ok y) x is = (y, refl, cc)
list_made-ok at (Err e) x is = absurd cc

pub map_made-ok : (at : Place) (o : Result (List Pair × Rest) YamlEnd) (x : Tree × Rest) → map_made at o ≡ Ok x → (y : List Pair × Rest) × (o ≡ Ok y) × (x ≡ (trees.Map at y.0, y.1))
map_made-ok at (Ok y) x is = (y, refl, cc)
map_made-ok at (Err e) x is = absurd cc

-- the point behind an opening bracket
pub behind_bracket : (from q : Rest) → flow_point (on 1 from) ≡ Ok q → size q ≤ size from
behind_bracket from q is = omega (arith, flow_point-size (on 1 from) q is, on-size 1 from)

pub list_form-shortens : (Node : Reading) → Shortens Node → Shortens (ListForm Node)
list_form-shortens Node shortens from x is =
    let m = list_made-ok (place from) is.0 x (sym is.2) in
    rw m.2 (from_next-shortens (ListTurn Node) (list_turn-shortens Node shortens) from (flow_point (on 1 from)) (behind_bracket from) m.0 (subst (FromNext (ListTurn Node) (flow_point (on 1 from))) m.1 is.1))

pub entry_ends-leaves : (n : ℕ) (pair : Pair) (next : Rest) → size next < n → Leaves size 1 n (entry_ends pair next)
entry_ends-leaves n pair next less =
    either size 1 n (begins 44 next.here) _ _ (comma-leaves n pair next less)
    (either size 1 n (begins 125 next.here) _ _ (omega (arith, on-size 1 next)) tt)

entry_turn-leaves : (n : ℕ) (pair : Pair) (o : Result Rest YamlEnd) → ((q : Rest) → o ≡ Ok q → size q < n) → Leaves size 1 n (entry_turn pair o)
entry_turn-leaves n pair (Ok next) less = entry_ends-leaves n pair next (less next refl)
entry_turn-leaves n pair (Err e) less = tt

value_turn-leaves : (n : ℕ) (key : Tree) (value : Outcome) → ((x : Tree × Rest) → value ≡ Ok x → size x.1 < n) → Leaves size 1 n (value_turn key value)
value_turn-leaves n key (Ok x) less = entry_turn-leaves n (entry key x.0) (flow_point x.1) (λ q is. omega (arith, flow_point-size x.1 q is, less x refl))
value_turn-leaves n key (Err e) less = tt

module _ (Node : Reading) (shortens : Shortens Node) where
  pub value_turns-leave : (n : ℕ) (key : Tree) (colon : Rest) (o : Result Rest YamlEnd) → ((q : Rest) → o ≡ Ok q → size q < n) → (turn : Turn Pair Rest) → ValueTurn Node key colon o turn → Leaves size 1 n turn
  value_turns-leave n key colon (Err e) less turn is = rw is tt
  value_turns-leave n key colon (Ok next) less turn is =
      elim (which (ends_entry next.here) _ _ is) [
        | inl h ↦ rw h.1 (entry_ends-leaves n (entry key (empty_at colon)) next (less next refl))
        | inr h ↦ rw h.1.2 (value_turn-leaves n key h.1.0 (λ x e. omega (arith, shortens next x (subst (Node next) e h.1.1), less next refl)))
      ]

  pub key_turn-leaves : (n : ℕ) (from : Rest) (key : Tree) (to : Rest) (o : Result Rest YamlEnd) → ((q : Rest) → o ≡ Ok q → size q < n) → (turn : Turn Pair Rest) → KeyTurn Node from key to o turn → Leaves size 1 n turn
  key_turn-leaves n from key to (Err e) less turn is = rw is tt
  key_turn-leaves n from key to (Ok next) less turn is =
      elim (which (is_keyed from to next) _ _ is) [
        | inl h ↦ value_turns-leave n key (on 1 next) (flow_point (on 1 next)) (λ q e. omega (arith, flow_point-size (on 1 next) q e, on-size 1 next, less next refl)) turn h.1
        | inr h ↦ rw h.1 (entry_ends-leaves n (entry key (empty_at to)) next (less next refl))
      ]

  pub after_key-leaves : (n : ℕ) (before : List Pair) (from : Rest) (key : Outcome) → ((x : Tree × Rest) → key ≡ Ok x → size x.1 < n) → (turn : Turn Pair Rest) → AfterKey Node before from key turn → Leaves size 1 n turn
  after_key-leaves n before from (Err e) less turn is = rw is tt
  after_key-leaves n before from (Ok x) less turn is =
      elim (which (stands_before x.0 before) _ _ is) [
        | inl h ↦ rw h.1 tt
        | inr h ↦ key_turn-leaves n from x.0 x.1 (flow_point x.1) (λ q e. omega (arith, flow_point-size x.1 q e, less x refl)) turn h.1
      ]

  module _ (Key : Reading) (key_shortens : Shortens Key) where
    pub map_turn-shortens : TurnsShorten size 1 (MapTurn Node Key)
    map_turn-shortens before from turn is =
        elim (which (begins 125 from.here) _ _ is) [
          | inl h ↦ rw h.1 (omega (arith, on-shortens 1 from (omega arith) (begins-some 125 from.here h.0)))
          | inr h ↦ after_key-leaves (size from) before from h.1.0 (λ x e. key_shortens from x (subst (Key from) e h.1.1)) turn h.1.2
        ]

    pub map_form-shortens : Shortens (MapForm Node Key)
    map_form-shortens from x is =
        let m = map_made-ok (place from) is.0 x (sym is.2) in
        rw m.2 (from_next-shortens (MapTurn Node Key) map_turn-shortens from (flow_point (on 1 from)) (behind_bracket from) m.0 (subst (FromNext (MapTurn Node Key) (flow_point (on 1 from))) m.1 is.1))

-- of a form by what begins at its point
-- the header of a block scalar takes its line
header_line-shortens : (from : Rest) (x : Tree × Rest) → 0 < length from.here → header_line from ≡ Ok x → size x.1 < size from
header_line-shortens from x some is =
    let e : (trees.Scalar (place from) [], record from { here = [] }) ≡ x = cc is in rw (← e) (omega arith)

form_of-shortens : (flow maps : Bool) (Node Key : Reading) → Shortens Node → Shortens Key → (from : Rest) (o : Opening) → opening flow maps from ≡ o → (x : Tree × Rest) → FormOf flow Node Key o from (Ok x) → size x.1 < size from
form_of-shortens true maps Node Key node key from Plain is x form = plain-shortens true 0 from x (opening-plain true maps from is) (sym form)
form_of-shortens false maps Node Key node key from Plain is x form = plain_part-shortens from x (opening-plain false maps from is) (sym form)
form_of-shortens flow maps Node Key node key from (Quoted single inside) is x form = quoted-shortens from single inside x (opening-some flow maps from (Quoted single inside) is (λ e. cc e)) (sym form)
form_of-shortens flow maps Node Key node key from OpenQuote is x form = absurd (cc form)
form_of-shortens flow maps Node Key node key from FlowList is x form = list_form-shortens Node node from x form
form_of-shortens flow maps Node Key node key from FlowMap is x form = map_form-shortens Node node Key key from x form
form_of-shortens flow maps Node Key node key from (Header style chomping) is x form = header_line-shortens from x (opening-some flow maps from (Header style chomping) is (λ e. cc e)) (sym form)
form_of-shortens flow maps Node Key node key from (Outside feature) is x form = absurd (cc form)
form_of-shortens flow maps Node Key node key from Nothing is x form = absurd (cc form)

pub form-shortens : (flow maps : Bool) (levels : ℕ) (from : Rest) (x : Tree × Rest) → Form flow maps levels from (Ok x) → size x.1 < size from
form-shortens flow maps zero from x form = absurd (cc form)
form-shortens flow maps (suc levels) from x form =
    form_of-shortens flow maps (Form true true levels) (Form true false levels) (form-shortens true true levels) (form-shortens true false levels) from (opening flow maps from) refl x form

-- ---- block forms

abbrev pub BlockShortens : BlockReading → Type 0
BlockShortens Node = (least : ℕ) → Shortens (Node least)

pub settled-ok : (tree : Tree) (o : Result Rest YamlEnd) (x : Tree × Rest) → settled tree o ≡ Ok x → (left : Rest) × (o ≡ Ok left) × (x ≡ (tree, left))
settled-ok tree (Ok left) x is = (left, refl, cc)
settled-ok tree (Err e) x is = absurd cc

ended-shortens : (n : ℕ) (o : Outcome) → ((y : Tree × Rest) → o ≡ Ok y → size y.1 < n) → (x : Tree × Rest) → ended o ≡ Ok x → size x.1 < n
ended-shortens n (Ok y) less x is =
    let s = settled-ok y.0 (end_line y.1) x is in
    rw s.2 (omega (arith, end_line-size y.1 s.0 s.1, less y refl))
ended-shortens n (Err e) less x is = absurd (cc is)

drop_rows-size : (n : ℕ) (rows : List Row) → rows_size (drop n rows) ≤ rows_size rows
drop_rows-size zero rows = omega arith
drop_rows-size (suc n) [] = omega arith
drop_rows-size (suc n) (row ∷ rows) = omega (arith, drop_rows-size n rows)

-- the scalar that a content gives, and the lines behind it
pub with_content-ok : (style : Style) (chomping : Chomping) (at : Place) (r : Rest) (content : List Row) (o : Option Row) (x : Tree × Rest) → with_content style chomping at r content o ≡ Ok x
    → x ≡ (trees.Scalar at (block_text style chomping (content_indent content) content), settle (record r { below = drop (length content) r.below }))
with_content-ok style chomping at r content (Some row) x is = absurd (cc is)
with_content-ok style chomping at r content None x is = cc

pub block_scalar-ok : (style : Style) (chomping : Chomping) (least : ℕ) (at : Place) (r : Rest) (x : Tree × Rest) → block_scalar style chomping least at r ≡ Ok x
    → x ≡ (trees.Scalar at (block_text style chomping (content_indent (content_of least r.below)) (content_of least r.below)), settle (record r { below = drop (length (content_of least r.below)) r.below }))
block_scalar-ok style chomping least at r x is =
    let content : List Row = content_of least r.below in
    elim (chosen (least == 0) _ _ _ is) [
      | inl h ↦ absurd (cc h.1)
      | inr h ↦ with_content-ok style chomping at r content (find (is_shallow (content_indent content)) content) x h.1
    ]

block_scalar-size : (style : Style) (chomping : Chomping) (least : ℕ) (at : Place) (r : Rest) (x : Tree × Rest) → block_scalar style chomping least at r ≡ Ok x → size x.1 ≤ size r
block_scalar-size style chomping least at r x is =
    let n : ℕ = length (content_of least r.below) in
    rw (block_scalar-ok style chomping least at r x is) (omega (arith, settle-size (record r { below = drop n r.below }), drop_rows-size n r.below))

pub whole_form-shortens : (o : Opening) (least : ℕ) (from : Rest) (begun : Outcome) → opening false true from ≡ o → ((y : Tree × Rest) → begun ≡ Ok y → size y.1 < size from) → (x : Tree × Rest) → whole_form o least from begun ≡ Ok x → size x.1 < size from
whole_form-shortens o least from (Err e) is less x whole = absurd (cc whole)
whole_form-shortens Plain least from (Ok z) is less x whole = ended-shortens (size from) (plain false least from) (λ y e. plain-shortens false least from y (opening-plain false true from is) e) x whole
whole_form-shortens (Quoted single inside) least from (Ok z) is less x whole = ended-shortens (size from) (Ok z) less x whole
whole_form-shortens (Header style chomping) least from (Ok z) is less x whole = omega (arith, block_scalar-size style chomping least (place from) z.1 x whole, less z refl)
whole_form-shortens o least from (Ok z) is less x whole = ended-shortens (size from) (Ok z) less x whole

pub line_value-shortens : (levels least : ℕ) → Shortens (LineValue levels least)
line_value-shortens levels least from x is =
    whole_form-shortens (opening false true from) least from is.0 refl (λ y e. form-shortens false true levels from y (subst (Form false true levels from) e is.1)) x (sym is.2)

empty_scalar-size : (levels : ℕ) (at : Rest) (x : Tree × Rest) → empty_scalar levels at ≡ Ok x → size x.1 ≤ size at
empty_scalar-size zero at x is = absurd (cc is)
empty_scalar-size (suc levels) at x is = let e : (empty_at at, settle at) ≡ x = cc in rw (← e) (settle-size at)

pub node_in-size : (indent : ℕ) (lists : Bool) (at : Rest) (rows : List Row) (from : Rest) → node_in indent lists at rows ≡ Some from → size from < rows_size rows
node_in-size indent lists at [] from is = absurd cc
node_in-size indent lists at (row ∷ rows) from is =
    elim (chosen (begins_below indent lists row) _ _ _ is) [
      | inl h ↦ let e : front at row rows ≡ from = cc h.1 in rw (← e) (omega arith)
      | inr h ↦ absurd (cc h.1)
    ]

pub item_in-size : (indent : ℕ) (left : Rest) (rows : List Row) (from : Rest) → item_in indent left rows ≡ Some from → size from < rows_size rows
item_in-size indent left [] from is = absurd cc
item_in-size indent left (row ∷ rows) from is =
    elim (chosen (not (is_marker row) && row.indent == indent && is_item row.text) _ _ _ is) [
      | inl h ↦ let e : front left row rows ≡ from = cc h.1 in rw (← e) (omega arith)
      | inr h ↦ absurd (cc h.1)
    ]

pub entry_in-size : (indent : ℕ) (left : Rest) (rows : List Row) (from : Rest) → entry_in indent left rows ≡ Some from → size from < rows_size rows
entry_in-size indent left [] from is = absurd cc
entry_in-size indent left (row ∷ rows) from is =
    elim (chosen (not (is_marker row) && row.indent == indent) _ _ _ is) [
      | inl h ↦ let e : front left row rows ≡ from = cc h.1 in rw (← e) (omega arith)
      | inr h ↦ absurd (cc h.1)
    ]

item_then-leaves : (n : ℕ) (item : Tree) (left : Rest) (o : Option Rest) → size left ≤ n → ((from : Rest) → o ≡ Some from → size from < n) → Leaves size 0 n (item_then item left o)
item_then-leaves n item left (Some next) less more = more next refl
item_then-leaves n item left None less more = omega arith

block_item_turn-leaves : (n indent : ℕ) (item : Outcome) → ((x : Tree × Rest) → item ≡ Ok x → size x.1 ≤ n) → Leaves size 0 n (block_item_turn indent item)
block_item_turn-leaves n indent (Ok x) less = item_then-leaves n x.0 x.1 (item_in indent x.1 x.1.below) (less x refl) (λ from is. omega (arith, item_in-size indent x.1 x.1.below from is, less x refl))
block_item_turn-leaves n indent (Err e) less = tt

key_then-leaves : (n : ℕ) (pair : Pair) (from to : Rest) (key : Tree) → size to < n → Leaves (λ (keyed : Tree × Rest). size keyed.1) 0 n (key_then pair from to key)
key_then-leaves n pair from to key less =
    either (λ (keyed : Tree × Rest). size keyed.1) 0 n (from.line == to.line && is_colon (skip_blanks to).here) _ _ (omega (arith, on-size 1 (skip_blanks to), skip_blanks-size to)) tt

later_key-leaves : (n : ℕ) (before : List Pair) (pair : Pair) (from : Rest) (key : Outcome) → ((x : Tree × Rest) → key ≡ Ok x → size x.1 < n) → Leaves (λ (keyed : Tree × Rest). size keyed.1) 0 n (later_key before pair from key)
later_key-leaves n before pair from (Ok x) less =
    either (λ (keyed : Tree × Rest). size keyed.1) 0 n (stands_before x.0 (before ++ pair ∷ [])) _ _ tt (key_then-leaves n pair from x.1 x.0 (less x refl))
later_key-leaves n before pair from (Err e) less = tt

next_entry-leaves : (n levels : ℕ) (before : List Pair) (pair : Pair) (left : Rest) (o : Option Rest) → size left ≤ n → ((from : Rest) → o ≡ Some from → size from < n) → (turn : Turn Pair (Tree × Rest)) → NextEntry levels before pair left o turn → Leaves (λ (keyed : Tree × Rest). size keyed.1) 0 n turn
next_entry-leaves n levels before pair left None less more turn is = rw is (omega arith)
next_entry-leaves n levels before pair left (Some from) less more turn is =
    rw is.2 (later_key-leaves n before pair from is.0 (λ x e. omega (arith, form-shortens false false levels from x (subst (Form false false levels from) e is.1), more from refl)))

after_value-leaves : (n levels indent : ℕ) (before : List Pair) (key : Tree) (value : Outcome) → ((x : Tree × Rest) → value ≡ Ok x → size x.1 ≤ n) → (turn : Turn Pair (Tree × Rest)) → AfterValue levels indent before key value turn → Leaves (λ (keyed : Tree × Rest). size keyed.1) 0 n turn
after_value-leaves n levels indent before key (Err e) less turn is = rw is tt
after_value-leaves n levels indent before key (Ok x) less turn is =
    next_entry-leaves n levels before (entry key x.0) x.1 (entry_in indent x.1 x.1.below) (less x refl) (λ from e. omega (arith, entry_in-size indent x.1 x.1.below from e, less x refl)) turn is

module _ (Node : BlockReading) (shortens : BlockShortens Node) (levels indent : ℕ) where
  below_of-size : (at : Rest) (o : Option Rest) → ((from : Rest) → o ≡ Some from → size from < size at) → (x : Tree × Rest) → BelowOf Node levels indent at o (Ok x) → size x.1 ≤ size at
  below_of-size at (Some from) less x is = omega (arith, shortens (indent + 1) from x is, less from refl)
  below_of-size at None less x is = empty_scalar-size levels at x (sym is)

  pub below-size : (lists : Bool) (at : Rest) (x : Tree × Rest) → Below Node levels indent lists at (Ok x) → size x.1 ≤ size at
  below-size lists at x is =
      below_of-size at (node_in indent lists at (from_content at.below)) (λ from e. omega (arith, node_in-size indent lists at (from_content at.below) from e, from_content-size at.below)) x is

  pub item-size : (at : Rest) (x : Tree × Rest) → Item Node levels indent at (Ok x) → size x.1 ≤ size at
  item-size at x is =
      elim (which (is_clear at.here) _ _ is) [
        | inl h ↦ below-size false at x h.1
        | inr h ↦ omega (arith, shortens (indent + 1) (skip_blanks at) x h.1, skip_blanks-size at)
      ]

  pub value-size : (at : Rest) (x : Tree × Rest) → Value Node levels indent at (Ok x) → size x.1 ≤ size at
  value-size at x is =
      elim (which (is_clear at.here) _ _ is) [
        | inl h ↦ below-size true at x h.1
        | inr h ↦ omega (arith, line_value-shortens levels (indent + 1) (skip_blanks at) x h.1, skip_blanks-size at)
      ]

  -- the turns of a list, whose last item may be empty
  pub item_turn-leaves-on : (before : List Tree) (from : Rest) (turn : Turn Tree Rest) → ItemTurn Node levels indent before from turn → Leaves size 0 (size (on 1 from)) turn
  item_turn-leaves-on before from turn is =
      rw is.2 (block_item_turn-leaves (size (on 1 from)) indent is.0 (λ x e. item-size (on 1 from) x (subst (Item Node levels indent (on 1 from)) e is.1)))

  pub item_turn-shortens : TurnsShorten size 0 (ItemTurn Node levels indent)
  item_turn-shortens before from turn is = leaves-le size 0 (size (on 1 from)) (size from) (on-size 1 from) turn (item_turn-leaves-on before from turn is)

  -- the turns of a map, each of which begins behind a `:`
  pub entry_turn-shortens : TurnsShorten (λ (keyed : Tree × Rest). size keyed.1) 0 (EntryTurn Node levels indent)
  entry_turn-shortens before keyed turn is =
      after_value-leaves (size keyed.1) levels indent before keyed.0 is.0 (λ x e. value-size keyed.1 x (subst (Value Node levels indent keyed.1) e is.1)) turn is.2

module _ (Node : BlockReading) (shortens : BlockShortens Node) (levels : ℕ) where
  -- the `-` of the first item is taken, or a whole item
  item_run-shortens : (indent : ℕ) (from : Rest) (read : List Tree) (at : Rest) → 0 < length from.here → InTurn (ItemTurn Node levels indent) [] from read at → size (on 1 at) < size from
  item_run-shortens indent from [] at some is = rw (← is) (on-shortens 1 from (omega arith) some)
  item_run-shortens indent from (item ∷ items) at some is =
      omega (arith, in_turn-shortens size 0 (ItemTurn Node levels indent) (item_turn-shortens Node shortens levels indent) [] from item items at is, on-size 1 at)

  item_turns-shorten : (indent : ℕ) (from : Rest) (x : List Tree × Rest) → 0 < length from.here → Repeats (ItemTurn Node levels indent) from (Ok x) → size x.1 < size from
  item_turns-shorten indent from x some is =
      let a = item_run-shortens indent from is.read is.at some is.in_turn in
      let b = ends-size size 0 (ItemTurn Node levels indent) (item_turn-shortens Node shortens levels indent) (size (on 1 is.at)) is.read is.end x (item_turn-leaves-on Node shortens levels indent is.read is.at is.end is.last) is.ends in
      omega (arith, a, b)

  pub block_list-shortens : (from : Rest) (x : Tree × Rest) → 0 < length from.here → BlockList Node levels from (Ok x) → size x.1 < size from
  block_list-shortens from x some is =
      let m = list_made-ok (place from) is.0 x (sym is.2) in
      rw m.2 (item_turns-shorten (from.column - 1) from m.0 some (subst (Repeats (ItemTurn Node levels (from.column - 1)) from) m.1 is.1))

  pub block_map-size : (from : Rest) (key : Tree) (behind : Rest) (x : Tree × Rest) → BlockMap Node levels from key behind (Ok x) → size x.1 ≤ size behind
  block_map-size from key behind x is =
      let m = map_made-ok (place from) is.0 x (sym is.2) in
      let turns : Repeats (EntryTurn Node levels (from.column - 1)) (key, behind) (Ok m.0) = subst (Repeats (EntryTurn Node levels (from.column - 1)) (key, behind)) m.1 is.1 in
      rw m.2 (omega (arith, repeats-size (λ (keyed : Tree × Rest). size keyed.1) 0 (EntryTurn Node levels (from.column - 1)) (entry_turn-shortens Node shortens levels (from.column - 1)) (key, behind) m.0 turns))

  first_key-size : (from : Rest) (key : Tree) (to : Rest) (deep : Option Place) (x : Tree × Rest) → FirstKey Node levels from key to deep (Ok x) → size x.1 ≤ size to
  first_key-size from key to (Some deep) x is = absurd (cc is)
  first_key-size from key to None x is = omega (arith, block_map-size from key (on 1 (skip_blanks to)) x is, on-size 1 (skip_blanks to), skip_blanks-size to)

  pub after_form-shortens : (least : ℕ) (from : Rest) (begun : Outcome) → ((y : Tree × Rest) → begun ≡ Ok y → size y.1 < size from) → (x : Tree × Rest) → AfterForm Node levels least from begun (Ok x) → size x.1 < size from
  after_form-shortens least from (Err e) less x is = absurd (cc is)
  after_form-shortens least from (Ok y) less x is =
      elim (which (is_block_key from y.1) _ _ is) [
        | inl h ↦ omega (arith, first_key-size from y.0 y.1 (deep_place y.0 levels) x h.1, less y refl)
        | inr h ↦ whole_form-shortens (opening false true from) least from (Ok y) refl less x (sym h.1)
      ]

pub item-some : (here : List ℕ) → is_item here ≡ true → 0 < length here
item-some [] is = absurd (cc is)
item-some (byte ∷ bytes) is = omega arith

pub node-shortens : (levels least : ℕ) (from : Rest) (x : Tree × Rest) → BlockNode levels least from (Ok x) → size x.1 < size from
node-shortens zero least from x is =
    elim (which (is_item from.here) _ _ is) [
      | inl h ↦ absurd (cc h.1)
      | inr h ↦ absurd (cc h.1)
    ]
node-shortens (suc levels) least from x is =
    elim (which (is_item from.here) _ _ is) [
      | inl h ↦ block_list-shortens (BlockNode levels) (node-shortens levels) levels from x (item-some from.here h.0) h.1
      | inr h ↦ after_form-shortens (BlockNode levels) (node-shortens levels) levels least from h.1.0 (λ y e. form-shortens false true (suc levels) from y (subst (Form false true (suc levels) from) e h.1.1)) x h.1.2
    ]

-- ---- the turns of a reader, which leave less than they began with where one more follows

pub list_turn-more : (levels : ℕ) (before : List Tree) (from : Rest) (item : Tree) (next : Rest) → ListTurn (Form true true levels) before from (More item next) → size next < size from
list_turn-more levels before from item next is = list_turn-shortens (Form true true levels) (form-shortens true true levels) before from (More item next) is

pub map_turn-more : (levels : ℕ) (before : List Pair) (from : Rest) (pair : Pair) (next : Rest) → MapTurn (Form true true levels) (Form true false levels) before from (More pair next) → size next < size from
map_turn-more levels before from pair next is =
    map_turn-shortens (Form true true levels) (form-shortens true true levels) (Form true false levels) (form-shortens true false levels) before from (More pair next) is

pub item_turn-more : (levels indent : ℕ) (before : List Tree) (from : Rest) (item : Tree) (next : Rest) → ItemTurn (BlockNode levels) levels indent before from (More item next) → size next < size from
item_turn-more levels indent before from item next is = item_turn-shortens (BlockNode levels) (node-shortens levels) levels indent before from (More item next) is

pub entry_turn-more : (levels indent : ℕ) (before : List Pair) (keyed : Tree × Rest) (pair : Pair) (next : Tree × Rest) → EntryTurn (BlockNode levels) levels indent before keyed (More pair next) → size next.1 < size keyed.1
entry_turn-more levels indent before keyed pair next is = entry_turn-shortens (BlockNode levels) (node-shortens levels) levels indent before keyed (More pair next) is
