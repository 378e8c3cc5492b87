-- What further lines add to a plain scalar.
use Rattle.std.proofs.Common.{◌≡◌, ℕ, zero, suc, ◌+◌, Bool, true, false, List, [], ◌∷◌, ◌++◌, length, get_or, drop, replicate, None, Some, Result, Ok, Err, String, string_bytes, string_len, inl, inr, refl, sym, ap, ◌∙◌, one-add, add-zero, zero-add, arith}
use Rattle.std.specs.List.{slice_get, prefix_len}
use Rattle.std.proofs.lemmas.List.{drop_more, append_assoc, length-replicate}
use Rattle.std.proofs.lemmas.List.Sums.{prefix_len_stops, prefix_len-drop_yes, prefix_len-drop_no}
use Rattle.std.proofs.lemmas.Bool.{cases_Bool}
use Rattle.std.proofs.lemmas.Option.{slice_get_within, get_or_from_slice_get}
use Rattle.yaml_tree.specs.Rest.{Row, Rest, on, front}
use Rattle.yaml_tree.specs.Lines.{is_empty, is_marker, marker_end}
use Rattle.yaml_tree.specs.Scalars.{part_of, break_text, goes_on, with_text, lines_added, added}
use Rattle.yaml_tree.specs.declared.tree.YamlEnd.{YamlEnd}

-- ---- texts

pub string_len-bytes : {Z : Type 0} (s : String Z) → string_len s ≡ length (string_bytes s)
string_len-bytes s = s.bytes.ok.0

-- so many line feeds
pub feeds-count : {Z : Type 0} (s : String Z) (n : ℕ) → string_bytes s ≡ replicate n 10 → string_len s ≡ n
feeds-count s n e = string_len-bytes s ∙ ap length e ∙ length-replicate n 10

pub with_text-with_text : (a b : List ℕ) (x : Result (List ℕ × Rest) YamlEnd) → with_text a (with_text b x) ≡ with_text (a ++ b) x
with_text-with_text a b (Ok x) = ap (λ (l : List ℕ). Ok (l, x.1)) (sym (append_assoc a b x.0))
with_text-with_text a b (Err e) = refl

-- ---- the lines below

abbrev pub blank_line : Row → Bool
blank_line row = is_empty row.text

pub rows-at : (rows : List Row) (n : ℕ) (row : Row) → slice_get rows n ≡ Some row → drop n rows ≡ row ∷ drop (n + 1) rows
rows-at rows n row there = drop_more rows n row (slice_get_within rows n row there) ∙ ap (λ (x : Row). x ∷ drop (n + 1) rows) (get_or_from_slice_get rows n row row there)

pub rows-end : (rows : List Row) (n : ℕ) → slice_get rows n ≡ None → drop n rows ≡ []
rows-end [] zero none = refl
rows-end [] (suc n) none = refl
rows-end (row ∷ rows) zero none = absurd cc
rows-end (row ∷ rows) (suc n) none = rows-end rows n none

blank_at : (rows : List Row) (n : ℕ) (row : Row) → slice_get rows n ≡ Some row → blank_line (get_or rows n row) ≡ blank_line row
blank_at rows n row there = ap blank_line (get_or_from_slice_get rows n row row there)

pub blanks_more : (rows : List Row) (n : ℕ) (row : Row) → slice_get rows n ≡ Some row → blank_line row ≡ true → n + prefix_len blank_line (drop n rows) ≡ n + 1 + prefix_len blank_line (drop (n + 1) rows)
blanks_more rows n row there blank =
    let one = prefix_len-drop_yes blank_line rows n row (slice_get_within rows n row there) (blank_at rows n row there ∙ blank) in
    omega (arith, one)

pub blanks_stop : (rows : List Row) (n : ℕ) (row : Row) → slice_get rows n ≡ Some row → blank_line row ≡ false → n + prefix_len blank_line (drop n rows) ≡ n
blanks_stop rows n row there full =
    let none = prefix_len-drop_no blank_line rows n row (slice_get_within rows n row there) (blank_at rows n row there ∙ full) in
    omega (arith, none)

pub blanks_end : (rows : List Row) (n : ℕ) → slice_get rows n ≡ None → n + prefix_len blank_line (drop n rows) ≡ n
blanks_end rows n none = ap (λ (l : List Row). n + prefix_len blank_line l) (rows-end rows n none) ∙ add-zero n

blank_adds : (flow : Bool) (least : ℕ) (r : Rest) (blanks : ℕ) (row : Row) (rows : List Row) → blank_line row ≡ true → lines_added flow least r blanks (row ∷ rows) ≡ lines_added flow least r (suc blanks) rows
unfolding lines_added
blank_adds flow least r blanks row rows blank = rw blank refl

-- blank lines are counted
lines_past : (flow : Bool) (least : ℕ) (r : Rest) (blanks : ℕ) (rows : List Row) → lines_added flow least r blanks rows ≡ lines_added flow least r (blanks + prefix_len blank_line rows) (drop (prefix_len blank_line rows) rows)
lines_past flow least r blanks [] = ap (λ (k : ℕ). lines_added flow least r k []) (sym (add-zero blanks))
lines_past flow least r blanks (row ∷ rows) =
    let to : ℕ → Result (List ℕ × Rest) YamlEnd = λ m. lines_added flow least r (blanks + m) (drop m (row ∷ rows)) in
    elim (cases_Bool (blank_line row)) [
      | inl blank ↦
          let n : ℕ = prefix_len blank_line rows in
          let len : prefix_len blank_line (row ∷ rows) ≡ suc n = rw (blank, one-add) refl in
          let count : suc blanks + n ≡ blanks + suc n = omega arith in
          blank_adds flow least r blanks row rows blank ∙ lines_past flow least r (suc blanks) rows ∙ ap (λ (k : ℕ). lines_added flow least r k (drop n rows)) count ∙ ap to (sym len)
      | inr full ↦
          let len : prefix_len blank_line (row ∷ rows) ≡ 0 = rw full refl in
          ap (λ (k : ℕ). lines_added flow least r k (row ∷ rows)) (sym (add-zero blanks)) ∙ ap to (sym len)
    ]

module _ (flow : Bool) (least : ℕ) (r : Rest) (blanks : ℕ) (row : Row) (rows : List Row) (full : is_empty row.text ≡ false) where
  apart : goes_on flow least row ≡ false → lines_added flow least r blanks (row ∷ rows) ≡ Ok ([], r)
  unfolding lines_added
  apart a = rw (full, a) refl

  marked : goes_on flow least row ≡ true → is_marker row ≡ true → lines_added flow least r blanks (row ∷ rows) ≡ Err (marker_end r.file row)
  unfolding lines_added
  marked a b = rw (full, a, b) refl

  bare : goes_on flow least row ≡ true → is_marker row ≡ false → is_empty (part_of flow row.text) ≡ true → lines_added flow least r blanks (row ∷ rows) ≡ Ok ([], r)
  unfolding lines_added
  bare a b d = rw (full, a, b, d) refl

  longer : goes_on flow least row ≡ true → is_marker row ≡ false → is_empty (part_of flow row.text) ≡ false
      → lines_added flow least r blanks (row ∷ rows) ≡ with_text (break_text blanks ++ part_of flow row.text) (added flow least (on (length (part_of flow row.text)) (front r row rows)))
  unfolding lines_added
  longer a b d = rw (full, a, b, d) refl

-- ---- from where a plain scalar ended so far

-- it fills its line so far, and behind so many blank lines comes this one
pub record AtLine (r : Rest) (n : ℕ) (row : Row) : Type 0 where
  pub empty : is_empty r.here ≡ true
  pub count : n ≡ prefix_len blank_line r.below
  pub there : slice_get r.below n ≡ Some row

past_blanks : (flow : Bool) (least : ℕ) (r : Rest) (n : ℕ) → is_empty r.here ≡ true → n ≡ prefix_len blank_line r.below → added flow least r ≡ lines_added flow least r n (drop n r.below)
past_blanks flow least r n empty count =
    let to : ℕ → Result (List ℕ × Rest) YamlEnd = λ m. lines_added flow least r m (drop m r.below) in
    let all : ℕ = prefix_len blank_line r.below in
    let first : added flow least r ≡ lines_added flow least r 0 r.below = rw empty refl in
    first ∙ lines_past flow least r 0 r.below ∙ ap (λ (m : ℕ). lines_added flow least r m (drop all r.below)) (zero-add all) ∙ ap to (sym count)

at_row : (flow : Bool) (least : ℕ) (r : Rest) (n : ℕ) (row : Row) → AtLine r n row → added flow least r ≡ lines_added flow least r n (row ∷ drop (n + 1) r.below)
at_row flow least r n row at = past_blanks flow least r n at.empty at.count ∙ ap (lines_added flow least r n) (rows-at r.below n row at.there)

full_row : (r : Rest) (n : ℕ) (row : Row) → AtLine r n row → is_empty row.text ≡ false
full_row r n row at =
    let all : ℕ = prefix_len blank_line r.below in
    let there : slice_get r.below all ≡ Some row = ap (slice_get r.below) (sym at.count) ∙ at.there in
    sym (blank_at r.below all row there) ∙ prefix_len_stops blank_line r.below row (slice_get_within r.below all row there)

pub ends_last : (flow : Bool) (least : ℕ) (r : Rest) (n : ℕ) → is_empty r.here ≡ true → n ≡ prefix_len blank_line r.below → slice_get r.below n ≡ None → added flow least r ≡ Ok ([], r)
unfolding lines_added
ends_last flow least r n empty count none = past_blanks flow least r n empty count ∙ ap (lines_added flow least r n) (rows-end r.below n none)

pub ends_apart : (flow : Bool) (least : ℕ) (r : Rest) (n : ℕ) (row : Row) → AtLine r n row → goes_on flow least row ≡ false → added flow least r ≡ Ok ([], r)
ends_apart flow least r n row at a = at_row flow least r n row at ∙ apart flow least r n row (drop (n + 1) r.below) (full_row r n row at) a

pub refuses_marked : (flow : Bool) (least : ℕ) (r : Rest) (n : ℕ) (row : Row) → AtLine r n row → goes_on flow least row ≡ true → is_marker row ≡ true → added flow least r ≡ Err (marker_end r.file row)
refuses_marked flow least r n row at a b = at_row flow least r n row at ∙ marked flow least r n row (drop (n + 1) r.below) (full_row r n row at) a b

pub ends_bare : (flow : Bool) (least : ℕ) (r : Rest) (n : ℕ) (row : Row) → AtLine r n row → goes_on flow least row ≡ true → is_marker row ≡ false → is_empty (part_of flow row.text) ≡ true → added flow least r ≡ Ok ([], r)
ends_bare flow least r n row at a b d = at_row flow least r n row at ∙ bare flow least r n row (drop (n + 1) r.below) (full_row r n row at) a b d

pub grows : (flow : Bool) (least : ℕ) (r : Rest) (n : ℕ) (row : Row) (text : List ℕ) → AtLine r n row → goes_on flow least row ≡ true → is_marker row ≡ false → is_empty (part_of flow row.text) ≡ false
    → with_text text (added flow least r) ≡ with_text (text ++ (break_text n ++ part_of flow row.text)) (added flow least (on (length (part_of flow row.text)) (front r row (drop (n + 1) r.below))))
grows flow least r n row text at a b d =
    ap (with_text text) (at_row flow least r n row at ∙ longer flow least r n row (drop (n + 1) r.below) (full_row r n row at) a b d)
    ∙ with_text-with_text text (break_text n ++ part_of flow row.text) (added flow least (on (length (part_of flow row.text)) (front r row (drop (n + 1) r.below))))
