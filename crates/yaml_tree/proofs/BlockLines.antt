-- The lines of a block scalar's content, as a reader goes over them.
use Rattle.std.proofs.Common.{◌≡◌, ℕ, ◌+◌, ◌-◌, ◌≤◌, ◌<◌, Bool, true, false, List, [], ◌∷◌, ◌++◌, ◌==◌, if◌then◌else◌, length, get_or, drop, take, None, Some, refl, sym, ap, ◌∙◌, arith}
use Rattle.std.specs.List.{find, slice_get, prefix_len, suffix_len}
use Rattle.std.proofs.lemmas.Bool.{cond-true, cond-false}
use Rattle.std.proofs.lemmas.List.{append-nil, append_assoc, drop_all, take_all}
use Rattle.std.proofs.lemmas.List.Sums.{prefix_len-drop_yes, prefix_len-drop_no, suffix_len-take_yes, suffix_len-take_no}
use Rattle.std.proofs.lemmas.Option.{slice_get_within, get_or_from_slice_get}
use Rattle.yaml_tree.specs.Rest.{Row}
use Rattle.yaml_tree.specs.BlockScalars.{is_blank_row, in_content, content_of, content_indent, line_text, stands, folds, break_behind, joined, trimmed}
use Rattle.yaml_tree.specs.declared.header.Style.{Style}
use Rattle.yaml_tree.proofs.ScalarLines.{rows-at}

passes_at : (p : Row → Bool) (rows : List Row) (n : ℕ) (row : Row) → slice_get rows n ≡ Some row → p (get_or rows n row) ≡ p row
passes_at p rows n row there = ap p (get_or_from_slice_get rows n row row there)

-- ---- how many lines in front pass a test

pub prefix_more : (p : Row → Bool) (rows : List Row) (n : ℕ) (row : Row) → slice_get rows n ≡ Some row → p row ≡ true → n + prefix_len p (drop n rows) ≡ n + 1 + prefix_len p (drop (n + 1) rows)
prefix_more p rows n row there holds =
    let one = prefix_len-drop_yes p rows n row (slice_get_within rows n row there) (passes_at p rows n row there ∙ holds) in
    omega (arith, one)

prefix_stop : (p : Row → Bool) (rows : List Row) (n : ℕ) (row : Row) → slice_get rows n ≡ Some row → p row ≡ false → n + prefix_len p (drop n rows) ≡ n
prefix_stop p rows n row there fails =
    let none = prefix_len-drop_no p rows n row (slice_get_within rows n row there) (passes_at p rows n row there ∙ fails) in
    omega (arith, none)

-- ---- the lines of the content

pub content_stop : (least : ℕ) (rows : List Row) (count : ℕ) (row : Row) → count + prefix_len (in_content least) (drop count rows) ≡ prefix_len (in_content least) rows → slice_get rows count ≡ Some row → in_content least row ≡ false → take count rows ≡ content_of least rows
content_stop least rows count row same there fails =
    let is : count ≡ prefix_len (in_content least) rows = sym (prefix_stop (in_content least) rows count row there fails) ∙ same in
    ap (λ (n : ℕ). take n rows) is

pub content_end : (least : ℕ) (rows : List Row) (count : ℕ) → count + prefix_len (in_content least) (drop count rows) ≡ prefix_len (in_content least) rows → length rows ≤ count → take count rows ≡ content_of least rows
content_end least rows count same past =
    let none : prefix_len (in_content least) (drop count rows) ≡ 0 = ap (prefix_len (in_content least)) (drop_all count rows past) in
    let is : count ≡ prefix_len (in_content least) rows = omega (arith, same, none) in
    ap (λ (n : ℕ). take n rows) is

-- ---- the first line that is not blank

pub indent_past : (rows : List Row) (n : ℕ) (row : Row) → slice_get rows n ≡ Some row → is_blank_row row ≡ true → content_indent (drop (n + 1) rows) ≡ content_indent (drop n rows)
indent_past rows n row there blank =
    sym (ap content_indent (rows-at rows n row there) ∙ cond-true (is_blank_row row) (content_indent (drop (n + 1) rows)) row.indent blank)

pub indent_here : (rows : List Row) (n : ℕ) (row : Row) → slice_get rows n ≡ Some row → is_blank_row row ≡ false → row.indent ≡ content_indent (drop n rows)
indent_here rows n row there full =
    sym (ap content_indent (rows-at rows n row there) ∙ cond-false (is_blank_row row) (content_indent (drop (n + 1) rows)) row.indent full)

pub indent_none : (rows : List Row) (n : ℕ) → length rows ≤ n → 0 ≡ content_indent (drop n rows)
indent_none rows n past = sym (ap content_indent (drop_all n rows past))

pub stands_past : (indent : ℕ) (rows : List Row) (n : ℕ) (row : Row) → slice_get rows n ≡ Some row → is_blank_row row ≡ true → stands indent (drop (n + 1) rows) ≡ stands indent (drop n rows)
stands_past indent rows n row there blank =
    sym (ap (stands indent) (rows-at rows n row there) ∙ cond-true (is_blank_row row) (stands indent (drop (n + 1) rows)) (row.indent == indent) blank)

pub stands_here : (indent : ℕ) (rows : List Row) (n : ℕ) (row : Row) → slice_get rows n ≡ Some row → is_blank_row row ≡ false → (row.indent == indent) ≡ stands indent (drop n rows)
stands_here indent rows n row there full =
    sym (ap (stands indent) (rows-at rows n row there) ∙ cond-false (is_blank_row row) (stands indent (drop (n + 1) rows)) (row.indent == indent) full)

pub stands_none : (indent : ℕ) (rows : List Row) (n : ℕ) → length rows ≤ n → false ≡ stands indent (drop n rows)
stands_none indent rows n past = sym (ap (stands indent) (drop_all n rows past))

-- ---- the first line that passes a test

pub find_past : (p : Row → Bool) (rows : List Row) (n : ℕ) (row : Row) → slice_get rows n ≡ Some row → p row ≡ false → find p (drop (n + 1) rows) ≡ find p (drop n rows)
find_past p rows n row there fails =
    sym (ap (find p) (rows-at rows n row there) ∙ cond-false (p row) (Some row) (find p (drop (n + 1) rows)) fails)

pub find_here : (p : Row → Bool) (rows : List Row) (n : ℕ) (row : Row) → slice_get rows n ≡ Some row → p row ≡ true → Some row ≡ find p (drop n rows)
find_here p rows n row there holds =
    sym (ap (find p) (rows-at rows n row there) ∙ cond-true (p row) (Some row) (find p (drop (n + 1) rows)) holds)

pub find_none : (p : Row → Bool) (rows : List Row) (n : ℕ) → length rows ≤ n → None ≡ find p (drop n rows)
find_none p rows n past = sym (ap (find p) (drop_all n rows past))

-- ---- lines with their breaks

pub break_last : (style : Style) (indent : ℕ) (row : Row) (rows : List Row) (n : ℕ) → length rows ≤ n → [] ≡ break_behind style indent row (drop n rows)
break_last style indent row rows n past = sym (ap (break_behind style indent row) (drop_all n rows past))

pub break_at : (style : Style) (indent : ℕ) (row : Row) (rows : List Row) (n : ℕ) (next : Row) → slice_get rows n ≡ Some next
    → break_behind style indent row (drop n rows) ≡ (if folds style indent row (drop n rows) then (if is_blank_row next then [] else 32 ∷ []) else 10 ∷ [])
break_at style indent row rows n next there =
    let below : List Row = next ∷ drop (n + 1) rows in
    ap (break_behind style indent row) (rows-at rows n next there)
    ∙ ap (λ (l : List Row). if folds style indent row l then (if is_blank_row next then [] else 32 ∷ []) else 10 ∷ []) (sym (rows-at rows n next there))

pub break_feed : (style : Style) (indent : ℕ) (row : Row) (rows : List Row) (n : ℕ) (next : Row) → slice_get rows n ≡ Some next → folds style indent row (drop n rows) ≡ false → 10 ∷ [] ≡ break_behind style indent row (drop n rows)
break_feed style indent row rows n next there fails =
    sym (break_at style indent row rows n next there ∙ cond-false (folds style indent row (drop n rows)) (if is_blank_row next then [] else 32 ∷ []) (10 ∷ []) fails)

break_folded : (style : Style) (indent : ℕ) (row : Row) (rows : List Row) (n : ℕ) (next : Row) → slice_get rows n ≡ Some next → folds style indent row (drop n rows) ≡ true → break_behind style indent row (drop n rows) ≡ (if is_blank_row next then [] else 32 ∷ [])
break_folded style indent row rows n next there holds =
    break_at style indent row rows n next there ∙ cond-true (folds style indent row (drop n rows)) (if is_blank_row next then [] else 32 ∷ []) (10 ∷ []) holds

pub break_nothing : (style : Style) (indent : ℕ) (row : Row) (rows : List Row) (n : ℕ) (next : Row) → slice_get rows n ≡ Some next → folds style indent row (drop n rows) ≡ true → is_blank_row next ≡ true → [] ≡ break_behind style indent row (drop n rows)
break_nothing style indent row rows n next there holds blank =
    sym (break_folded style indent row rows n next there holds ∙ cond-true (is_blank_row next) [] (32 ∷ []) blank)

pub break_space : (style : Style) (indent : ℕ) (row : Row) (rows : List Row) (n : ℕ) (next : Row) → slice_get rows n ≡ Some next → folds style indent row (drop n rows) ≡ true → is_blank_row next ≡ false → 32 ∷ [] ≡ break_behind style indent row (drop n rows)
break_space style indent row rows n next there holds full =
    sym (break_folded style indent row rows n next there holds ∙ cond-false (is_blank_row next) [] (32 ∷ []) full)

joined_row : (style : Style) (indent : ℕ) (row : Row) (rows : List Row) → joined style indent (row ∷ rows) ≡ line_text indent row ++ (break_behind style indent row rows ++ joined style indent rows)
unfolding joined
joined_row style indent row rows = refl

joined_none : (style : Style) (indent : ℕ) → joined style indent [] ≡ []
unfolding joined
joined_none style indent = refl

pub joined_past : (style : Style) (indent : ℕ) (rows : List Row) (n : ℕ) (row : Row) (text : List ℕ) → slice_get rows n ≡ Some row
    → ((text ++ line_text indent row) ++ break_behind style indent row (drop (n + 1) rows)) ++ joined style indent (drop (n + 1) rows) ≡ text ++ joined style indent (drop n rows)
joined_past style indent rows n row text there =
    let line : List ℕ = line_text indent row in
    let between : List ℕ = break_behind style indent row (drop (n + 1) rows) in
    let left : List ℕ = joined style indent (drop (n + 1) rows) in
    append_assoc (text ++ line) between left
    ∙ append_assoc text line (between ++ left)
    ∙ ap (λ (l : List ℕ). text ++ l) (sym (ap (joined style indent) (rows-at rows n row there) ∙ joined_row style indent row (drop (n + 1) rows)))

pub joined_end : (style : Style) (indent : ℕ) (rows : List Row) (n : ℕ) (text : List ℕ) → length rows ≤ n → text ++ joined style indent (drop n rows) ≡ text
joined_end style indent rows n text past =
    ap (λ (l : List ℕ). text ++ l) (ap (joined style indent) (drop_all n rows past) ∙ joined_none style indent) ∙ append-nil text

-- ---- the lines before the blank ones at the end

-- so many lines are left after blank ones were taken from the end
pub record TrimmedTo (rows : List Row) (count : ℕ) : Type 0 where
  pub within : count ≤ length rows
  pub same : count + suffix_len is_blank_row rows ≡ length rows + suffix_len is_blank_row (take count rows)

pub trim_start : (rows : List Row) (count : ℕ) → count ≡ length rows → TrimmedTo rows count
trim_start rows count is =
    let all : take count rows ≡ rows = ap (λ (n : ℕ). take n rows) is ∙ take_all (length rows) rows (omega arith) in
    let same : suffix_len is_blank_row (take count rows) ≡ suffix_len is_blank_row rows = ap (suffix_len is_blank_row) all in
    record { within = omega (arith, is); same = omega (arith, is, same) }

pub trim_more : (rows : List Row) (count : ℕ) (row : Row) → 0 < count → TrimmedTo rows count → slice_get rows (count - 1) ≡ Some row → is_blank_row row ≡ true → TrimmedTo rows (count - 1)
trim_more rows count row some at there blank =
    let one = suffix_len-take_yes is_blank_row rows count row some at.within (passes_at is_blank_row rows (count - 1) row there ∙ blank) in
    record { within = omega (arith, at.within); same = omega (arith, at.same, one, at.within) }

trim_is : (rows : List Row) (count : ℕ) → TrimmedTo rows count → suffix_len is_blank_row (take count rows) ≡ 0 → take count rows ≡ trimmed rows
trim_is rows count at none =
    let is : count ≡ length rows - suffix_len is_blank_row rows = omega (arith, at.same, none) in
    ap (λ (n : ℕ). take n rows) is

pub trim_stop : (rows : List Row) (count : ℕ) (row : Row) → 0 < count → TrimmedTo rows count → slice_get rows (count - 1) ≡ Some row → is_blank_row row ≡ false → take count rows ≡ trimmed rows
trim_stop rows count row some at there full =
    trim_is rows count at (suffix_len-take_no is_blank_row rows count row some at.within (passes_at is_blank_row rows (count - 1) row there ∙ full))

pub trim_all : (rows : List Row) (count : ℕ) → count ≡ 0 → TrimmedTo rows count → take 0 rows ≡ trimmed rows
trim_all rows count none at =
    let all : suffix_len is_blank_row (take count rows) ≡ 0 = ap (λ (n : ℕ). suffix_len is_blank_row (take n rows)) none in
    ap (λ (n : ℕ). take n rows) (sym none) ∙ trim_is rows count at all
