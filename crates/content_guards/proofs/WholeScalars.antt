-- Scalars of lines that are whole characters are whole characters, and so is what is left behind them.
use Rattle.std.proofs.Common.{◌≡◌, ℕ, zero, suc, ◌+◌, ◌-◌, ◌<◌, ◌≤◌, Bool, true, false, not, ◌==◌, if◌then◌else◌, List, [], ◌∷◌, ◌++◌, length, take, drop, get_or, reverse, replicate, Option, None, Some, Result, Ok, Err, refl, sym, ap, ◌∙◌, subst, inl, inr, arith, length-take}
use Rattle.std.specs.List.{prefix_len, suffix_len}
use Rattle.std.proofs.lemmas.Bool.{cases_Bool, cases_lt, eqb-true}
use Rattle.std.proofs.lemmas.Bool.Decides.{nat_tests}
use Rattle.std.proofs.lemmas.List.{get_or-reverse}
use Rattle.std.proofs.lemmas.List.Sums.{prefix_len_passes, suffix_len-le-length}
use Rattle.dp_base.specs.Bytes.{is_blank}
use Rattle.yaml_tree.specs.Rest.{Row, Rest, place, on, skip_blanks, front}
use Rattle.yaml_tree.specs.Characters.{begins, is_clear}
use Rattle.yaml_tree.specs.Lines.{is_empty, has_content, from_content, is_marker, flow_below, flow_point, settle, end_line}
use Rattle.yaml_tree.specs.Scalars.{single_quoted, double_quoted, single_text, escaped, escape_at, double_text, ends_before, run_of, part_of, break_text, goes_on, with_text, lines_added, added}
use Rattle.yaml_tree.specs.declared.tree.YamlEnd.{YamlEnd}
use Rattle.yaml_tree.proofs.BasePoints.{below-blank}
use Rattle.yaml_tree.proofs.ScalarQuotes.{single_other, single_pair, single_closes, single_open, double_other, double_escape, double_closes, double_cut, double_open}
use Rattle.yaml_tree.proofs.ScalarTexts.{longer-some, with_front, doubled_other, doubled_escape}
use Rattle.yaml_tree.proofs.Sizes.{chosen, with_text-ok, plain_text}
use Rattle.content_guards.proofs.Whole.{whole, Step, step, low_step, low_more, no_bytes, one_low, joined, copies, cut_before, behind_low}

-- ---- what is left of a text

abbrev pub AreWhole : List Row → Type 0
AreWhole [] = Unit {0}
AreWhole (row ∷ rows) = (whole [] row.text ≡ true) × AreWhole rows

abbrev pub IsWhole : Rest → Type 0
IsWhole r = (whole [] r.here ≡ true) × AreWhole r.below

pub blanks_passed : (bytes : List ℕ) → whole [] bytes ≡ true → whole [] (drop (prefix_len is_blank bytes) bytes) ≡ true
blanks_passed bytes h = behind_low is_blank below-blank bytes h

pub skipped_whole : (r : Rest) → IsWhole r → IsWhole (skip_blanks r)
skipped_whole r h = (blanks_passed r.here h.0, h.1)

-- a first byte of ASCII is passed
pub passed_whole : (byte : ℕ) (r : Rest) → byte < 128 → begins byte r.here ≡ true → IsWhole r → IsWhole (on 1 r)
passed_whole byte r low is h = (past r.here is h.0, h.1)
  where
    past : (here : List ℕ) → begins byte here ≡ true → whole [] here ≡ true → whole [] (drop 1 here) ≡ true
    past [] e k = absurd (cc e)
    past (first ∷ bytes) e k = let same : first ≡ byte = eqb-true first byte e in (low_step [] first bytes (omega (arith, same, low)) k).1

pub content_whole : (rows : List Row) → AreWhole rows → AreWhole (from_content rows)
content_whole [] h = tt
content_whole (row ∷ rows) h = by (has_content row) (content_whole rows h.1)
  where
    by : (b : Bool) → AreWhole (from_content rows) → AreWhole (if b then row ∷ rows else from_content rows)
    by true rest = h
    by false rest = rest

pub settled_whole : (r : Rest) → IsWhole r → IsWhole (settle r)
settled_whole r h = (no_bytes, content_whole r.below h.1)

below_whole : (r q : Rest) (rows : List Row) → AreWhole rows → flow_below r rows ≡ Ok q → IsWhole q
below_whole r q [] h is = absurd (cc is)
below_whole r q (row ∷ rows) h is = elim (chosen (is_marker row) _ _ _ is) [
  | inl m ↦ absurd (cc m.1)
  | inr m ↦ let e : front r row rows ≡ q = cc m.1 in subst IsWhole e h
]

pub point_whole : (r q : Rest) → IsWhole r → flow_point r ≡ Ok q → IsWhole q
point_whole r q h is = elim (chosen (is_clear r.here) _ _ _ is) [
  | inl m ↦ below_whole r q (from_content r.below) (content_whole r.below h.1) m.1
  | inr m ↦ let e : skip_blanks r ≡ q = cc m.1 in subst IsWhole e (skipped_whole r h)
]

pub ended_whole : (r q : Rest) → IsWhole r → end_line r ≡ Ok q → IsWhole q
ended_whole r q h is = elim (chosen (is_clear r.here) _ _ _ is) [
  | inl m ↦ let e : settle r ≡ q = cc m.1 in subst IsWhole e (settled_whole r h)
  | inr m ↦ absurd (cc m.1)
]

-- ---- plain scalars

low_end : (flow behind : Bool) (byte : ℕ) (bytes : List ℕ) → ends_before flow behind byte bytes ≡ true → byte < 128
low_end flow behind byte bytes is = grind (arith, nat_tests)

run_whole : (flow behind : Bool) (n bytes : List ℕ) → whole n bytes ≡ true → (whole n (run_of flow behind bytes) ≡ true) × (whole [] (drop (length (run_of flow behind bytes)) bytes) ≡ true)
unfolding run_of
run_whole flow behind n [] h = (h, no_bytes)
run_whole flow behind n (byte ∷ bytes) h = elim (cases_Bool (ends_before flow behind byte bytes)) [
  | inl ends ↦
      let cut = low_step n byte bytes (low_end flow behind byte bytes ends) h in
      rw ends (cut.0, cut.2)
  | inr goes ↦
      let s = step n byte bytes h in
      let rest = run_whole flow (is_blank byte) s.left bytes s.rest in
      rw goes (s.again (run_of flow (is_blank byte) bytes) rest.0, rest.1)
]

-- the first of the blanks at the end
blank_behind : (bytes : List ℕ) → 0 < suffix_len is_blank bytes → is_blank (get_or bytes (length bytes - suffix_len is_blank bytes) 0) ≡ true
blank_behind bytes some =
    let count : ℕ = suffix_len is_blank bytes in
    let within = suffix_len-le-length is_blank bytes in
    let at : length bytes - 1 - (count - 1) ≡ length bytes - count = omega arith in
    let passes = prefix_len_passes is_blank (reverse bytes) (count - 1) 0 (omega arith) in
    let read = get_or-reverse bytes (count - 1) 0 (omega arith) in
    ap (λ (k : ℕ). is_blank (get_or bytes k 0)) (sym at) ∙ ap is_blank (sym read) ∙ passes

pub take_whole : (k : ℕ) (l : List ℕ) → length l ≤ k → take k l ≡ l
take_whole zero [] le = refl
take_whole (suc k) [] le = refl
take_whole zero (x ∷ l) le = absurd (omega arith)
take_whole (suc k) (x ∷ l) le = ap (λ (m : List ℕ). x ∷ m) (take_whole k l (omega arith))

-- the blanks at the end may be cut off, also where more stands behind them
pub trim_whole : (run : List ℕ) (count : ℕ) → count ≡ length run - suffix_len is_blank run → whole [] run ≡ true → whole [] (take count run) ≡ true
trim_whole run count is h = elim (cases_lt count (length run)) [
  | inl less ↦
      let within = suffix_len-le-length is_blank run in
      let blank : is_blank (get_or run count 0) ≡ true = subst (λ (k : ℕ). is_blank (get_or run k 0) ≡ true) (sym is) (blank_behind run (omega (arith, within, is))) in
      (cut_before [] count run less (below-blank (get_or run count 0) blank) h).0
  | inr all ↦ subst (λ (l : List ℕ). whole [] l ≡ true) (sym (take_whole count run all)) h
]

-- a run is what stands in front
run_same : (flow behind : Bool) (bytes : List ℕ) (k : ℕ) → k < length (run_of flow behind bytes) → get_or (run_of flow behind bytes) k 0 ≡ get_or bytes k 0
unfolding run_of
run_same flow behind [] k less = absurd (omega arith)
run_same flow behind (byte ∷ bytes) k less = elim (cases_Bool (ends_before flow behind byte bytes)) [
  | inl ends ↦ absurd (let none : k < 0 = rw ends at less in omega (arith, none))
  | inr goes ↦ let more : k < suc (length (run_of flow (is_blank byte) bytes)) = rw goes at less in rw goes (at_place k more (run_same flow (is_blank byte) bytes))
]
  where
    at_place : (k : ℕ) → k < suc (length (run_of flow (is_blank byte) bytes)) → ((j : ℕ) → j < length (run_of flow (is_blank byte) bytes) → get_or (run_of flow (is_blank byte) bytes) j 0 ≡ get_or bytes j 0)
        → get_or (byte ∷ run_of flow (is_blank byte) bytes) k 0 ≡ get_or (byte ∷ bytes) k 0
    at_place zero l rest = refl
    at_place (suc k) l rest = rest k (omega arith)

run_length : (flow behind : Bool) (bytes : List ℕ) → length (run_of flow behind bytes) ≤ length bytes
unfolding run_of
run_length flow behind [] = omega arith
run_length flow behind (byte ∷ bytes) = elim (cases_Bool (ends_before flow behind byte bytes)) [
  | inl ends ↦ rw ends (omega arith)
  | inr goes ↦ let rest = run_length flow (is_blank byte) bytes in rw goes (omega (arith, rest))
]

pub part_whole : (flow : Bool) (here : List ℕ) → whole [] here ≡ true → (whole [] (part_of flow here) ≡ true) × (whole [] (drop (length (part_of flow here)) here) ≡ true)
part_whole flow here h =
    let run : List ℕ = run_of flow false here in
    let count : ℕ = length run - suffix_len is_blank run in
    let both = run_whole flow false [] here h in
    let within = suffix_len-le-length is_blank run in
    let long : length (part_of flow here) ≡ count = omega (arith, length-take count run, within) in
    (trim_whole run count refl both.0, subst (λ (k : ℕ). whole [] (drop k here) ≡ true) (sym long) (behind run refl count refl both.1))
  where
    behind : (run : List ℕ) → run ≡ run_of flow false here → (count : ℕ) → count ≡ length run - suffix_len is_blank run → whole [] (drop (length run) here) ≡ true → whole [] (drop count here) ≡ true
    behind run is count at rest = elim (cases_lt count (length run)) [
      | inl less ↦
          let within = suffix_len-le-length is_blank run in
          let blank : is_blank (get_or run count 0) ≡ true = subst (λ (k : ℕ). is_blank (get_or run k 0) ≡ true) (sym at) (blank_behind run (omega (arith, within, at))) in
          let long : length run ≡ length (run_of flow false here) = ap (λ (l : List ℕ). length l) is in
          let same : get_or run count 0 ≡ get_or here count 0 = ap (λ (l : List ℕ). get_or l count 0) is ∙ run_same flow false here count (omega (arith, long, less)) in
          let low = below-blank (get_or run count 0) blank in
          (cut_before [] count here (omega (arith, less, long, run_length flow false here)) (omega (arith, low, same)) h).1
      | inr all ↦ let same : length run ≡ count = omega (arith, all, at) in subst (λ (k : ℕ). whole [] (drop k here) ≡ true) same rest
    ]

-- a text and what is left behind it
abbrev pub BothWhole : List ℕ × Rest → Type 0
BothWhole x = (whole [] x.0 ≡ true) × IsWhole x.1

nothing_more : (r : Rest) (x : List ℕ × Rest) → IsWhole r → ◌≡◌ {A = Result (List ℕ × Rest) YamlEnd} (Ok ([], r)) (Ok x) → BothWhole x
nothing_more r x h is = let e : ([], r) ≡ x = cc in subst BothWhole e (no_bytes, h)

break_whole : (blanks : ℕ) → whole [] (break_text blanks) ≡ true
break_whole blanks = by (blanks == 0)
  where
    by : (b : Bool) → whole [] (if b then 32 ∷ [] else replicate blanks 10) ≡ true
    by true = one_low 32 (omega arith)
    by false = copies blanks 10 (omega arith)

abbrev line_end : (flow : Bool) (r : Rest) (row : Row) (rows : List Row) → Rest
line_end flow r row rows = on (length (part_of flow row.text)) (front r row rows)

line_whole : (flow : Bool) (r : Rest) (blanks : ℕ) (row : Row) (rows : List Row) (more : Result (List ℕ × Rest) YamlEnd) (x : List ℕ × Rest) → AreWhole (row ∷ rows)
    → ((y : List ℕ × Rest) → more ≡ Ok y → BothWhole y)
    → with_text (break_text blanks ++ part_of flow row.text) (if is_empty (line_end flow r row rows).here then more else Ok ([], line_end flow r row rows)) ≡ Ok x → BothWhole x
line_whole flow r blanks row rows more x h rest is =
    let w = with_text-ok (break_text blanks ++ part_of flow row.text) (if is_empty (line_end flow r row rows).here then more else Ok ([], line_end flow r row rows)) x is in
    let part = part_whole flow row.text h.0 in
    let behind : BothWhole w.0 = elim (chosen (is_empty (line_end flow r row rows).here) more (Ok ([], line_end flow r row rows)) (Ok w.0) w.1) [
      | inl n ↦ rest w.0 n.1
      | inr n ↦ nothing_more (line_end flow r row rows) w.0 (part.1, h.1) n.1
    ] in
    subst BothWhole (sym w.2) (joined [] (break_text blanks ++ part_of flow row.text) w.0.0 (joined [] (break_text blanks) (part_of flow row.text) (break_whole blanks) part.0) behind.0, behind.1)

lines_whole : (flow : Bool) (least : ℕ) (r : Rest) (blanks : ℕ) (rows : List Row) (x : List ℕ × Rest) → IsWhole r → AreWhole rows → lines_added flow least r blanks rows ≡ Ok x → BothWhole x
unfolding lines_added
lines_whole flow least r blanks [] x good h is = nothing_more r x good is
lines_whole flow least r blanks (row ∷ rows) x good h is =
    elim (chosen (is_empty row.text) _ _ _ is) [
      | inl a ↦ lines_whole flow least r (suc blanks) rows x good h.1 a.1
      | inr a ↦ elim (chosen (not (goes_on flow least row)) _ _ _ a.1) [
        | inl k ↦ nothing_more r x good k.1
        | inr k ↦ elim (chosen (is_marker row) _ _ _ k.1) [
          | inl l ↦ absurd (cc l.1)
          | inr l ↦ elim (chosen (is_empty (part_of flow row.text)) _ _ _ l.1) [
            | inl m ↦ nothing_more r x good m.1
            | inr m ↦
                line_whole flow r blanks row rows (lines_added flow least (line_end flow r row rows) 0 rows) x h
                (λ y e. lines_whole flow least (line_end flow r row rows) 0 rows y ((part_whole flow row.text h.0).1, h.1) h.1 e) m.1
          ]
        ]
      ]
    ]

added_whole : (flow : Bool) (least : ℕ) (r : Rest) (x : List ℕ × Rest) → IsWhole r → added flow least r ≡ Ok x → BothWhole x
added_whole flow least r x good is =
    elim (chosen (is_empty r.here) _ _ _ is) [
      | inl h ↦ lines_whole flow least r 0 r.below x good good.1 h.1
      | inr h ↦ nothing_more r x good h.1
    ]

pub plain_whole : (flow : Bool) (least : ℕ) (r : Rest) (x : List ℕ × Rest) → IsWhole r → plain_text flow least r ≡ Ok x → BothWhole x
plain_whole flow least r x good is =
    let w = with_text-ok (part_of flow r.here) (added flow least (on (length (part_of flow r.here)) r)) x is in
    let part = part_whole flow r.here good.0 in
    let behind = added_whole flow least (on (length (part_of flow r.here)) r) w.0 (part.1, good.1) w.1 in
    subst BothWhole (sym w.2) (joined [] (part_of flow r.here) w.0.0 part.0 behind.0, behind.1)

-- ---- quoted scalars

-- what closes behind these bytes, what it stands for, and what is left behind the closing quote
pub record Closed (n bytes inner : List ℕ) : Type 0 where
  pub front : take (length inner) bytes ≡ inner
  pub behind : whole [] (drop (suc (length inner)) bytes) ≡ true

pub record Single (n bytes inner : List ℕ) : Type 0 where
  pub closed : Closed n bytes inner
  pub text : whole n (single_text inner) ≡ true

text_other : (byte : ℕ) (bytes : List ℕ) → (byte == 39) ≡ false → single_text (byte ∷ bytes) ≡ byte ∷ single_text bytes
unfolding single_text
text_other byte [] other = refl
text_other byte (next ∷ bytes) other = rw other refl

text_pair : (bytes : List ℕ) → single_text (39 ∷ (39 ∷ bytes)) ≡ 39 ∷ single_text bytes
unfolding single_text
text_pair bytes = refl

text_none : single_text [] ≡ []
unfolding single_text
text_none = refl

differs : (a b : ℕ) → (a == b) ≡ false → a ≡ b → ⊥
differs a b isnt e = grind (arith, nat_tests)

-- one byte further
closed_more : (n k : List ℕ) (byte : ℕ) (bytes inner : List ℕ) → Closed k bytes inner → Closed n (byte ∷ bytes) (byte ∷ inner)
closed_more n k byte bytes inner c = record { front = ap (λ (l : List ℕ). byte ∷ l) c.front; behind = c.behind }

closes : (n : List ℕ) (byte : ℕ) (bytes : List ℕ) → byte < 128 → whole n (byte ∷ bytes) ≡ true → Closed n (byte ∷ bytes) []
closes n byte bytes low h = record { front = refl; behind = (low_step n byte bytes low h).1 }

abbrev pub SingleAt : List ℕ → Type 0
SingleAt bytes = (n inner : List ℕ) → whole n bytes ≡ true → single_quoted bytes ≡ Some inner → Single n bytes inner

single_done : (bytes : List ℕ) → single_quoted (39 ∷ bytes) ≡ Some [] → SingleAt (39 ∷ bytes)
single_done bytes closed n inner h is =
    let told : Some [] ≡ Some inner = sym closed ∙ is in
    let same : [] ≡ inner = cc told in
    let first = (low_step n 39 bytes (omega arith) h).0 in
    subst (Single n (39 ∷ bytes)) same (record { closed = closes n 39 bytes (omega arith) h; text = subst (λ (l : List ℕ). whole n l ≡ true) (sym text_none) first })

pair_whole : (bytes : List ℕ) → SingleAt bytes → SingleAt (39 ∷ (39 ∷ bytes))
pair_whole bytes behind n inner h is =
    let first = low_step n 39 (39 ∷ bytes) (omega arith) h in
    let second = low_step [] 39 bytes (omega arith) first.1 in
    let more = longer-some (39 ∷ (39 ∷ [])) (single_quoted bytes) inner (sym (single_pair bytes) ∙ is) in
    let rest = behind [] more.0 second.1 more.1 in
    let text : whole [] (39 ∷ single_text more.0) ≡ true = low_more 39 (single_text more.0) (omega arith) rest.text in
    subst (Single n (39 ∷ (39 ∷ bytes))) {x = 39 ∷ (39 ∷ more.0)} more.2
    (record {
      closed = record { front = ap (λ (l : List ℕ). 39 ∷ (39 ∷ l)) rest.closed.front; behind = rest.closed.behind };
      text = subst (λ (l : List ℕ). whole n l ≡ true) (sym (text_pair more.0)) (joined n [] (39 ∷ single_text more.0) first.0 text);
    })

quote_whole : (next : ℕ) (bytes : List ℕ) → SingleAt bytes → SingleAt (39 ∷ (next ∷ bytes))
quote_whole next bytes behind = elim (cases_Bool (next == 39)) [
  | inl pair ↦ subst (λ (b : ℕ). SingleAt (39 ∷ (b ∷ bytes))) (sym (eqb-true next 39 pair)) (pair_whole bytes behind)
  | inr other ↦ single_done (next ∷ bytes) (single_closes (next ∷ bytes) other)
]

first_single : (byte : ℕ) (bytes : List ℕ) → SingleAt bytes → SingleAt (39 ∷ bytes) → SingleAt (byte ∷ bytes)
first_single byte bytes behind quote = elim (cases_Bool (byte == 39)) [
  | inl is ↦ subst (λ (b : ℕ). SingleAt (b ∷ bytes)) (sym (eqb-true byte 39 is)) quote
  | inr other ↦ past other
]
  where
    past : (byte == 39) ≡ false → SingleAt (byte ∷ bytes)
    past other n inner h is =
        let s = step n byte bytes h in
        let more = longer-some (byte ∷ []) (single_quoted bytes) inner (sym (single_other byte bytes (differs byte 39 other)) ∙ is) in
        let rest = behind s.left more.0 s.rest more.1 in
        subst (Single n (byte ∷ bytes)) {x = byte ∷ more.0} more.2
        (record {
          closed = closed_more n s.left byte bytes more.0 rest.closed;
          text = subst (λ (l : List ℕ). whole n l ≡ true) (sym (text_other byte more.0 other)) (s.again (single_text more.0) rest.text);
        })

no_single : SingleAt []
no_single n inner h is = let no : None ≡ Some inner = sym single_open ∙ is in absurd (cc no)

pub single_whole : (bytes : List ℕ) → SingleAt bytes
single_whole [] = no_single
single_whole (byte ∷ []) = first_single byte [] no_single (single_done [] (single_closes [] refl))
single_whole (byte ∷ next ∷ bytes) = first_single byte (next ∷ bytes) (single_whole (next ∷ bytes)) (quote_whole next bytes (single_whole bytes))

pub record Double (n bytes inner : List ℕ) : Type 0 where
  pub closed : Closed n bytes inner
  pub text : (at : ℕ) (text : List ℕ) → double_text at inner ≡ Ok text → whole n text ≡ true

low_escape : (byte character : ℕ) → escaped byte ≡ Some character → (byte < 128) × (character < 128)
low_escape byte character is = (grind (arith, nat_tests), grind (arith, nat_tests))

with_front-ok : (front : List ℕ) (o : Result (List ℕ) ℕ) (text : List ℕ) → with_front front o ≡ Ok text → (rest : List ℕ) × (o ≡ Ok rest) × (front ++ rest ≡ text)
with_front-ok front (Ok rest) text is = (rest, refl, cc)
with_front-ok front (Err at) text is = absurd (cc is)

escape_at-ok : (at : ℕ) (byte : Option ℕ) (o : Result (List ℕ) ℕ) (text : List ℕ) → escape_at at byte o ≡ Ok text → (character : ℕ) × (rest : List ℕ) × (byte ≡ Some character) × (o ≡ Ok rest) × (character ∷ rest ≡ text)
escape_at-ok at None o text is = absurd (cc is)
escape_at-ok at (Some character) (Ok rest) text is = (character, rest, refl, refl, cc)
escape_at-ok at (Some character) (Err place) text is = absurd (cc is)

no_text : (at : ℕ) (text : List ℕ) → double_text at [] ≡ Ok text → [] ≡ text
unfolding double_text
no_text at text is = cc

abbrev pub DoubleAt : List ℕ → Type 0
DoubleAt bytes = (n inner : List ℕ) → whole n bytes ≡ true → double_quoted bytes ≡ Some inner → Double n bytes inner

no_double : DoubleAt []
no_double n inner h is = let no : None ≡ Some inner = sym double_open ∙ is in absurd (cc no)

double_done : (bytes : List ℕ) → DoubleAt (34 ∷ bytes)
double_done bytes n inner h is =
    let told : Some [] ≡ Some inner = sym (double_closes bytes) ∙ is in
    let empty : [] ≡ inner = cc told in
    let first = (low_step n 34 bytes (omega arith) h).0 in
    subst (Double n (34 ∷ bytes)) empty (record { closed = closes n 34 bytes (omega arith) h; text = none first })
  where
    none : whole n [] ≡ true → (at : ℕ) (text : List ℕ) → double_text at [] ≡ Ok text → whole n text ≡ true
    none first at text e = subst (λ (l : List ℕ). whole n l ≡ true) (no_text at text e) first

cut_escape : DoubleAt (92 ∷ [])
cut_escape n inner h is = let no : None ≡ Some inner = sym double_cut ∙ is in absurd (cc no)

escape_whole : (next : ℕ) (bytes : List ℕ) → DoubleAt bytes → DoubleAt (92 ∷ (next ∷ bytes))
escape_whole next bytes after n inner h is =
    let first = low_step n 92 (next ∷ bytes) (omega arith) h in
    let more = longer-some (92 ∷ (next ∷ [])) (double_quoted bytes) inner (sym (double_escape next bytes) ∙ is) in
    let rest = after (next ∷ []) more.0 first.1 more.1 in
    subst (Double n (92 ∷ (next ∷ bytes))) {x = 92 ∷ (next ∷ more.0)} more.2
    (record { closed = closed_more n [] 92 (next ∷ bytes) (next ∷ more.0) (closed_more [] (next ∷ []) next bytes more.0 rest.closed); text = texts more.0 first.0 rest.text })
  where
    texts : (behind : List ℕ) → whole n [] ≡ true → ((at : ℕ) (text : List ℕ) → double_text at behind ≡ Ok text → whole (next ∷ []) text ≡ true) → (at : ℕ) (text : List ℕ) → double_text at (92 ∷ (next ∷ behind)) ≡ Ok text → whole n text ≡ true
    texts behind none rest at text e =
        let read = escape_at-ok at (escaped next) (double_text (at + 2) behind) text (sym (doubled_escape at next behind) ∙ e) in
        let low = low_escape next read.0 read.2 in
        let left : whole [] read.1 ≡ true = (low_step [] next read.1 low.0 (rest (at + 2) read.1 read.3)).1 in
        subst (λ (l : List ℕ). whole n l ≡ true) read.4 (joined n [] (read.0 ∷ read.1) none (low_more read.0 read.1 low.1 left))

first_double : (byte : ℕ) (bytes : List ℕ) → DoubleAt bytes → DoubleAt (92 ∷ bytes) → DoubleAt (byte ∷ bytes)
first_double byte bytes after escape = elim (cases_Bool (byte == 34)) [
  | inl quote ↦ subst (λ (b : ℕ). DoubleAt (b ∷ bytes)) (sym (eqb-true byte 34 quote)) (double_done bytes)
  | inr no_quote ↦ elim (cases_Bool (byte == 92)) [
    | inl slash ↦ subst (λ (b : ℕ). DoubleAt (b ∷ bytes)) (sym (eqb-true byte 92 slash)) escape
    | inr no_escape ↦ past no_quote no_escape
  ]
]
  where
    texts : (byte == 92) ≡ false → (n behind : List ℕ) (s : Step n byte bytes) → ((at : ℕ) (text : List ℕ) → double_text at behind ≡ Ok text → whole s.left text ≡ true) → (at : ℕ) (text : List ℕ) → double_text at (byte ∷ behind) ≡ Ok text → whole n text ≡ true
    texts no_escape n behind s rest at text e =
        let read = with_front-ok (byte ∷ []) (double_text (at + 1) behind) text (sym (doubled_other at byte behind (differs byte 92 no_escape)) ∙ e) in
        subst (λ (l : List ℕ). whole n l ≡ true) read.2 (s.again read.0 (rest (at + 1) read.0 read.1))

    past : (byte == 34) ≡ false → (byte == 92) ≡ false → DoubleAt (byte ∷ bytes)
    past no_quote no_escape n inner h is =
        let s = step n byte bytes h in
        let more = longer-some (byte ∷ []) (double_quoted bytes) inner (sym (double_other byte bytes (differs byte 34 no_quote) (differs byte 92 no_escape)) ∙ is) in
        let rest = after s.left more.0 s.rest more.1 in
        subst (Double n (byte ∷ bytes)) {x = byte ∷ more.0} more.2
        (record { closed = closed_more n s.left byte bytes more.0 rest.closed; text = texts no_escape n more.0 s rest.text })

pub double_whole : (bytes : List ℕ) → DoubleAt bytes
double_whole [] = no_double
double_whole (byte ∷ []) = first_double byte [] no_double cut_escape
double_whole (byte ∷ next ∷ bytes) = first_double byte (next ∷ bytes) (double_whole (next ∷ bytes)) (escape_whole next bytes (double_whole bytes))
