-- A text of one line that begins and ends with no blank: its one row.
use Rattle.std.proofs.Common.{◌≡◌, ℕ, ◌+◌, ◌-◌, Bool, true, false, not, ◌&&◌, ◌==◌, nat_lt, List, [], ◌∷◌, length, take, drop, get_or, Option, None, Ok, refl, sym, ap, ◌∙◌, arith}
use Rattle.std.specs.List.{list_all, prefix_len, suffix_len, position}
use Rattle.std.specs.Prelude.{if◌then◌else◌}
use Rattle.std.specs.Str.Lossy.{utf8_valid_len}
use Rattle.std.proofs.lemmas.Bool.{cond-false, and_parts, le-ltb}
use Rattle.std.proofs.lemmas.List.{length-append, get_or_at, take_all}
use Rattle.std.proofs.lemmas.List.Sums.{suffix_len_is}
use Rattle.std.proofs.lemmas.Str.{utf8_valid_len-IsUtf8}
use Rattle.std.proofs.Math.Bool.{and-false}
use Rattle.dp_base.specs.Bytes.{is_blank}
use Rattle.yaml_scan.specs.Bytes.{is_space, mark_length, before_first, cut, without_end, indent, content}
use Rattle.yaml_scan.specs.Faults.{bad_byte, is_filled, tab_in, tab_or, tab_from, tab_indent}
use Rattle.yaml_scan.specs.Lines.{line_at, lines_from}
use Rattle.yaml_scan.specs.Scan.{told, scan}
use Rattle.yaml_tree.specs.Rest.{row_of}
use Rattle.content_laws.specs.Writing.{Style}
use Rattle.content_laws.proofs.WrittenForms.{Begun}
use Rattle.content_laws.proofs.WrittenBytes.{no_feed, IsLine, Ended}

is_no_feed : (byte : ℕ) (b : Bool) → (byte == 10) ≡ b → not b ≡ true → (byte == 10) ≡ false
is_no_feed byte true e plain = absurd cc
is_no_feed byte false e plain = e

pub not_feed : (byte : ℕ) → no_feed byte ≡ true → (byte == 10) ≡ false
not_feed byte plain = is_no_feed byte (byte == 10) refl plain

-- a byte order mark stands in front only of a text that begins as one
pub no_mark : (byte : ℕ) (more : List ℕ) → (byte == 239) ≡ false → mark_length (byte ∷ more) ≡ 0
no_mark byte [] e = refl
no_mark byte (b ∷ []) e = refl
no_mark byte (b ∷ c ∷ more) e = rw e refl

-- ---- one line

cut_one : (byte : ℕ) (bytes : List ℕ) → list_all no_feed (byte ∷ bytes) ≡ true → cut (byte ∷ bytes) ≡ (byte ∷ bytes) ∷ []
unfolding cut
cut_one byte [] plain = rw (not_feed byte (and_parts (no_feed byte) true plain).0) refl
cut_one byte (next ∷ bytes) plain =
    let parts = and_parts (no_feed byte) (list_all no_feed (next ∷ bytes)) plain in
    cond-false (byte == 10) _ _ (not_feed byte parts.0) ∙ ap (before_first byte) (cut_one next bytes parts.1)

whole_line : (bytes : List ℕ) → list_all no_feed bytes ≡ true → without_end bytes ≡ bytes
whole_line [] plain = refl
whole_line (byte ∷ []) plain = rw (not_feed byte (and_parts (no_feed byte) true plain).0) refl
whole_line (byte ∷ next ∷ []) plain =
    let parts = and_parts (no_feed byte) (list_all no_feed (next ∷ [])) plain in
    let feed : (next == 10) ≡ false = not_feed next (and_parts (no_feed next) true parts.1).0 in
    cond-false (byte == 13 && next == 10) _ _ (ap (λ (b : Bool). byte == 13 && b) feed ∙ and-false (byte == 13)) ∙ ap (λ (l : List ℕ). byte ∷ l) (whole_line (next ∷ []) parts.1)
whole_line (byte ∷ next ∷ more ∷ bytes) plain =
    let parts = and_parts (no_feed byte) (list_all no_feed (next ∷ more ∷ bytes)) plain in
    ap (λ (l : List ℕ). byte ∷ l) (whole_line (next ∷ more ∷ bytes) parts.1)

module _ (s : Style) (bytes : List ℕ) (line : IsLine bytes) (begun : Begun s bytes) (ended : Ended s bytes) where
  -- ---- no fault

  unmarked : mark_length bytes ≡ 0
  unmarked = ap mark_length begun.is ∙ no_mark begun.byte begun.more begun.first.no_mark

  one_cut : cut bytes ≡ bytes ∷ []
  one_cut =
      ap cut begun.is ∙ cut_one begun.byte begun.more (ap (list_all no_feed) (sym begun.is) ∙ line.no_feeds)
      ∙ ap (λ (l : List ℕ). l ∷ []) (sym begun.is)

  cut_past_mark : cut (drop (mark_length bytes) bytes) ≡ bytes ∷ []
  cut_past_mark = ap (λ (k : ℕ). cut (drop k bytes)) unmarked ∙ one_cut

  whole : without_end bytes ≡ bytes
  whole = whole_line bytes line.no_feeds

  no_bad_byte : bad_byte bytes ≡ None
  no_bad_byte =
      let same : utf8_valid_len bytes ≡ length bytes = utf8_valid_len-IsUtf8 bytes line.utf8 in
      cond-false (nat_lt (utf8_valid_len bytes) (length bytes)) _ _ (le-ltb (utf8_valid_len bytes) (length bytes) (omega (arith, same)))

  no_lead : prefix_len is_blank bytes ≡ 0
  no_lead =
      let e : is_blank begun.byte ≡ false = begun.first.solid.no_blank in
      ap (prefix_len is_blank) begun.is ∙ cond-false (is_blank begun.byte) _ _ e

  no_tab_in : tab_in bytes ≡ None
  no_tab_in = ap tab_of whole ∙ ap (λ (k : ℕ). tab_with k bytes) no_lead ∙ never (is_filled bytes) None where
    tab_with : ℕ → List ℕ → Option ℕ
    tab_with leading text = if is_filled (drop leading text) then position (λ byte. byte == 9) (take leading text) else None

    tab_of : List ℕ → Option ℕ
    tab_of text = tab_with (prefix_len is_blank text) text

    never : (b : Bool) (o : Option ℕ) → (if b then o else o) ≡ o
    never true o = refl
    never false o = refl

  no_tab : tab_indent bytes ≡ None
  unfolding tab_from
  no_tab =
      ap (tab_from (mark_length bytes)) cut_past_mark ∙ ap (λ (o : Option ℕ). tab_or (mark_length bytes) o None) no_tab_in

  pub one_scan : (file : ℕ) → scan file bytes ≡ Ok (line_at 1 0 bytes ∷ [])
  unfolding lines_from
  one_scan file =
      (λ i. told file bytes (no_bad_byte i) (no_tab i))
      ∙ ap (λ (lines : List (List ℕ)). Ok (lines_from 1 (mark_length bytes) lines)) cut_past_mark
      ∙ ap (λ (k : ℕ). Ok (line_at 1 k bytes ∷ [])) unmarked

  -- ---- the row

  no_indent : indent bytes ≡ 0
  no_indent = ap (prefix_len is_space) begun.is ∙ cond-false (is_space begun.byte) _ _ begun.first.no_space

  no_trail : suffix_len is_blank bytes ≡ 0
  no_trail =
      let long : length bytes ≡ length ended.front + 1 = ap length ended.is ∙ length-append ended.front (ended.last ∷ []) in
      let at_end : get_or bytes (length bytes - 1) 0 ≡ ended.last =
      ap (λ (l : List ℕ). get_or l (length bytes - 1) 0) ended.is ∙ get_or_at ended.front ended.last [] 0 (length bytes - 1) (omega arith) in
      suffix_len_is is_blank bytes (length bytes) 0 (omega arith) (λ k low high. absurd (omega arith)) (λ some. ap is_blank at_end ∙ ended.no_blank) ∙ (omega arith)

  all_content : content bytes ≡ bytes
  all_content =
      ap (λ (k : ℕ). trimmed (drop k (without_end bytes))) no_indent ∙ ap trimmed whole
      ∙ ap (λ (k : ℕ). take (length bytes - k) bytes) no_trail ∙ take_all (length bytes - 0) bytes (omega arith)
    where
      trimmed : List ℕ → List ℕ
      trimmed l = take (length l - suffix_len is_blank l) l

  pub row_text : (row_of bytes (line_at 1 0 bytes)).text ≡ bytes
  row_text =
      ap (λ (i : ℕ). take (0 + i + length (content bytes) - (0 + i)) (drop (0 + i) bytes)) no_indent
      ∙ ap (λ (l : List ℕ). take (0 + 0 + length l - (0 + 0)) bytes) all_content ∙ take_all (0 + 0 + length bytes - (0 + 0)) bytes (omega arith)
