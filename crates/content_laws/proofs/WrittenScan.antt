-- A text of many lines, each with its line feed: the rows that it gives.
use Rattle.std.proofs.Common.{◌≡◌, ℕ, zero, suc, ◌+◌, ◌-◌, Bool, true, false, not, ◌&&◌, ◌||◌, ◌==◌, nat_lt, List, [], ◌∷◌, ◌++◌, length, take, drop, get_or, map, Option, None, Some, Ok, IsUtf8, refl, sym, ap, ◌∙◌, append_assoc, arith}
use Rattle.std.specs.Prelude.{if◌then◌else◌, codes}
use Rattle.std.specs.List.{list_all, prefix_len, suffix_len, position, position_or_len, flat_map}
use Rattle.std.specs.Str.{bytes_eq, is_utf8, chars}
use lib.Utf8.{encode}
use Rattle.std.specs.Str.Lossy.{utf8_valid_len}
use Rattle.std.proofs.lemmas.Bool.{cond-false, and_parts, and_from, le-ltb}
use Rattle.std.proofs.lemmas.List.{length-append, get_or_at, take_all, drop-drop, length-replicate, append-nil}
use Rattle.std.proofs.Math.Seq.{take-append_seam, drop-append_seam}
use Rattle.std.proofs.lemmas.List.Folds.{prefix_len-replicate, list_all-append}
use Rattle.std.proofs.lemmas.List.Sums.{suffix_len_is}
use Rattle.std.proofs.lemmas.Str.{IsUtf8-from_is_utf8, IsUtf8-append, IsUtf8-nil, utf8_valid_len-IsUtf8}
use Rattle.std.proofs.Math.Bool.{and-false}
use Rattle.dp_base.specs.Bytes.{is_blank}
use Rattle.yaml_scan.specs.Bytes.{is_space, mark_length, before_first, cut, without_end, indent, content}
use Rattle.yaml_scan.specs.Faults.{bad_byte, is_filled, tab_in, tab_or, tab_from, tab_indent}
use Rattle.yaml_scan.specs.Lines.{line_at, lines_from}
use Rattle.yaml_scan.specs.Scan.{told, scan}
use Rattle.yaml_tree.specs.Rest.{Row, row_of}
use Rattle.yaml_tree.specs.Characters.{begins}
use Rattle.yaml_tree.specs.Lines.{has_content}
use Rattle.content_laws.specs.Writing.{spaces}
use Rattle.content_laws.specs.BlockWriting.{Line, Note, Piece, Content, Remark, note_end, line_end, piece_text, byte_order_mark, IsComment}
use Rattle.content_laws.proofs.WrittenBlanks.{past_spaces, IsSolid, past_blanks, past_solid, blanks_count}
use Rattle.content_laws.proofs.WrittenBytes.{no_feed, IsLine, spaces_line, one_line, one_utf8, none_fed, both}
use Rattle.content_laws.proofs.WrittenLines.{not_feed, no_mark}
use Rattle.content_laws.proofs.WrittenRows.{IsRow}

-- what stands in a line with content
pub record IsText (text : List ℕ) : Type 0 where
  pub line : IsLine text
  pub byte : ℕ
  pub more : List ℕ
  pub is : text ≡ byte ∷ more
  pub solid : IsSolid byte
  pub no_space : (byte == 32) ≡ false
  pub no_mark : (byte == 239) ≡ false
  pub front : List ℕ
  pub last : ℕ
  pub ends : text ≡ front ++ last ∷ []
  pub no_blank : is_blank last ≡ false
  pub no_return : (last == 13) ≡ false

-- and in one that marks no documents
pub record IsGood (text : List ℕ) : Type 0 where
  pub text_is : IsText text
  pub no_directive : begins 37 text ≡ false
  pub no_start : bytes_eq text (codes "---") ≡ false
  pub no_end : bytes_eq text (codes "...") ≡ false

abbrev pub AllGood : List Line → Type 0
AllGood [] = Unit {0}
AllGood (line ∷ lines) = IsGood line.1 × AllGood lines

pub all_good : (xs ys : List Line) → AllGood xs → AllGood ys → AllGood (xs ++ ys)
all_good [] ys a b = b
all_good (x ∷ xs) ys a b = (a.0, all_good xs ys a.1 b)

abbrev pub IsPiece : Piece → Type 0
IsPiece (Content line) = IsText line.1
IsPiece (Remark note) = IsComment note.comment

abbrev pub ArePieces : List Piece → Type 0
ArePieces [] = Unit {0}
ArePieces (piece ∷ others) = IsPiece piece × ArePieces others

-- ---- the ends of lines

abbrev no_return : ℕ → Bool
no_return byte = not (byte == 13)

not_return : (byte : ℕ) (b : Bool) → (byte == 13) ≡ b → not b ≡ true → (byte == 13) ≡ false
not_return byte true e plain = absurd cc
not_return byte false e plain = e

end_cut : (front : List ℕ) (last : ℕ) → (last == 13) ≡ false → without_end (front ++ last ∷ 10 ∷ []) ≡ front ++ last ∷ []
end_cut [] last e = rw e refl
end_cut (f ∷ []) last e = ap (λ (l : List ℕ). f ∷ l) (end_cut [] last e)
end_cut (f ∷ g ∷ []) last e = ap (λ (l : List ℕ). f ∷ l) (end_cut (g ∷ []) last e)
end_cut (f ∷ g ∷ h ∷ front) last e = ap (λ (l : List ℕ). f ∷ l) (end_cut (g ∷ h ∷ front) last e)

feed_cut : (xs : List ℕ) → list_all no_return xs ≡ true → without_end (xs ++ 10 ∷ []) ≡ xs
feed_cut [] plain = refl
feed_cut (x ∷ []) plain = end_cut [] x (not_return x (x == 13) refl (and_parts (no_return x) true plain).0)
feed_cut (x ∷ y ∷ []) plain = ap (λ (l : List ℕ). x ∷ l) (feed_cut (y ∷ []) (and_parts (no_return x) (list_all no_return (y ∷ [])) plain).1)
feed_cut (x ∷ y ∷ z ∷ xs) plain = ap (λ (l : List ℕ). x ∷ l) (feed_cut (y ∷ z ∷ xs) (and_parts (no_return x) (list_all no_return (y ∷ z ∷ xs)) plain).1)

return_cut : (xs : List ℕ) → without_end (xs ++ 13 ∷ 10 ∷ []) ≡ xs
return_cut [] = refl
return_cut (x ∷ []) = ap (λ (l : List ℕ). x ∷ l) (return_cut [])
return_cut (x ∷ y ∷ []) = ap (λ (l : List ℕ). x ∷ l) (return_cut (y ∷ []))
return_cut (x ∷ y ∷ z ∷ xs) = ap (λ (l : List ℕ). x ∷ l) (return_cut (y ∷ z ∷ xs))

cut_line : (xs rest : List ℕ) → list_all no_feed xs ≡ true → cut (xs ++ 10 ∷ rest) ≡ (xs ++ 10 ∷ []) ∷ cut rest
unfolding cut
cut_line [] rest plain = refl
cut_line (x ∷ xs) rest plain =
    let parts = and_parts (no_feed x) (list_all no_feed xs) plain in
    cond-false (x == 10) _ _ (not_feed x parts.0) ∙ ap (before_first x) (cut_line xs rest parts.1)

cut_ended : (returns : Bool) (xs rest : List ℕ) → list_all no_feed xs ≡ true → cut ((xs ++ line_end returns) ++ rest) ≡ (xs ++ line_end returns) ∷ cut rest
cut_ended false xs rest plain = ap cut (append_assoc xs (10 ∷ []) rest) ∙ cut_line xs rest plain
cut_ended true xs rest plain =
    let whole : (xs ++ 13 ∷ []) ++ 10 ∷ [] ≡ xs ++ 13 ∷ 10 ∷ [] = append_assoc xs (13 ∷ []) (10 ∷ []) in
    ap (λ (l : List ℕ). cut (l ++ rest)) (sym whole) ∙ ap cut (append_assoc (xs ++ 13 ∷ []) (10 ∷ []) rest)
    ∙ cut_line (xs ++ 13 ∷ []) rest (none_fed xs (13 ∷ []) plain refl) ∙ ap (λ (l : List ℕ). l ∷ cut rest) whole

end_utf8 : (returns : Bool) → IsUtf8 (line_end returns)
end_utf8 false = one_utf8 10 (omega arith)
end_utf8 true = IsUtf8-append (13 ∷ []) (10 ∷ []) (one_utf8 13 (omega arith)) (one_utf8 10 (omega arith))

-- ---- spaces in front

spaces_long : (i : ℕ) → length (spaces i) ≡ i
spaces_long i = length-replicate i 32

past_front : (i : ℕ) (text : List ℕ) → drop i (spaces i ++ text) ≡ text
past_front i text = ap (λ (k : ℕ). drop k (spaces i ++ text)) (sym (spaces_long i)) ∙ drop-append_seam (spaces i) text

-- how many spaces stand in front
spaces_count : (n : ℕ) (text : List ℕ) (byte : ℕ) (more : List ℕ) → text ≡ byte ∷ more → (byte == 32) ≡ false → prefix_len is_space (spaces n ++ text) ≡ n
spaces_count zero text byte more is other = ap (prefix_len is_space) is ∙ cond-false (is_space byte) _ _ other
spaces_count (suc n) text byte more is other = let so_far = spaces_count n text byte more is other in ap (λ (k : ℕ). 1 + k) so_far ∙ (omega arith)

no_tab_in_spaces : (i : ℕ) → position (λ byte. byte == 9) (spaces i) ≡ None
no_tab_in_spaces i =
    let past : position_or_len (λ byte. byte == 9) (spaces i) ≡ i = prefix_len-replicate (λ byte. not (byte == 9)) i 32 refl in
    let long = spaces_long i in
    cond-false (nat_lt (position_or_len (λ byte. byte == 9) (spaces i)) (length (spaces i))) _ _
    (le-ltb (position_or_len (λ byte. byte == 9) (spaces i)) (length (spaces i)) (omega (arith, past, long)))

-- a line with spaces in front, and then a byte that is no blank, has no tab in front
no_tab_front : (i byte : ℕ) (text more line : List ℕ) → without_end line ≡ spaces i ++ text → text ≡ byte ∷ more → IsSolid byte → tab_in line ≡ None
no_tab_front i byte text more line ended is solid = ap tab_of ended ∙ ap (λ (k : ℕ). tab_with k (spaces i ++ text)) lead ∙ ap (λ (t : List ℕ). tab_by t (is_filled (drop i (spaces i ++ text)))) front_spaces
    ∙ ap (λ (o : Option ℕ). if is_filled (drop i (spaces i ++ text)) then o else None) (no_tab_in_spaces i) ∙ never (is_filled (drop i (spaces i ++ text))) None where
      tab_by : List ℕ → Bool → Option ℕ
      tab_by front filled = if filled then position (λ byte. byte == 9) front else None

      tab_with : ℕ → List ℕ → Option ℕ
      tab_with leading t = tab_by (take leading t) (is_filled (drop leading t))

      tab_of : List ℕ → Option ℕ
      tab_of t = tab_with (prefix_len is_blank t) t

      lead : prefix_len is_blank (spaces i ++ text) ≡ i
      lead = blanks_count i text byte more is solid

      front_spaces : take i (spaces i ++ text) ≡ spaces i
      front_spaces = ap (λ (k : ℕ). take k (spaces i ++ text)) (sym (spaces_long i)) ∙ take-append_seam (spaces i) text

      never : (b : Bool) (o : Option ℕ) → (if b then o else o) ≡ o
      never true o = refl
      never false o = refl

-- a line without content has none that counts
no_tab_note : (text line : List ℕ) → without_end line ≡ text → is_filled (past_blanks text) ≡ false → tab_in line ≡ None
no_tab_note text line ended empty = ap tab_of ended ∙ cond-false (is_filled (past_blanks text)) _ _ empty where
  tab_of : List ℕ → Option ℕ
  tab_of t = if is_filled (drop (prefix_len is_blank t) t) then position (λ byte. byte == 9) (take (prefix_len is_blank t) t) else None

-- ---- lines with content

-- the row of a line with content
pub record TextRow (row : Row) (line : Line) : Type 0 where
  pub indent : row.indent ≡ line.0
  pub text : row.text ≡ line.1
  pub content : has_content row ≡ true

module _ (returns : Bool) (line : Line) (is : IsText line.1) where
  abbrev body : List ℕ
  body = spaces line.0 ++ line.1

  abbrev whole : List ℕ
  whole = body ++ line_end returns

  body_by : (b : Bool) → without_end (body ++ line_end b) ≡ body
  body_by true = return_cut body
  body_by false =
      let split : body ≡ (spaces line.0 ++ is.front) ++ is.last ∷ [] = ap (λ (t : List ℕ). spaces line.0 ++ t) is.ends ∙ sym (append_assoc (spaces line.0) is.front (is.last ∷ [])) in
      ap (λ (t : List ℕ). without_end (t ++ 10 ∷ [])) split ∙ ap without_end (append_assoc (spaces line.0 ++ is.front) (is.last ∷ []) (10 ∷ []))
      ∙ end_cut (spaces line.0 ++ is.front) is.last is.no_return ∙ sym split

  text_cut : (rest : List ℕ) → cut (whole ++ rest) ≡ whole ∷ cut rest
  text_cut rest = cut_ended returns body rest (both (spaces line.0) line.1 (spaces_line line.0) is.line).no_feeds

  text_tab : tab_in whole ≡ None
  text_tab = no_tab_front line.0 is.byte line.1 is.more whole (body_by returns) is.is is.solid

  text_utf8 : IsUtf8 whole
  text_utf8 = IsUtf8-append body (line_end returns) (both (spaces line.0) line.1 (spaces_line line.0) is.line).utf8 (end_utf8 returns)

  no_blank_end : suffix_len is_blank line.1 ≡ 0
  no_blank_end =
      let long : length line.1 ≡ length is.front + 1 = ap length is.ends ∙ length-append is.front (is.last ∷ []) in
      let at_end : get_or line.1 (length line.1 - 1) 0 ≡ is.last =
      ap (λ (l : List ℕ). get_or l (length line.1 - 1) 0) is.ends ∙ get_or_at is.front is.last [] 0 (length line.1 - 1) (omega arith) in
      suffix_len_is is_blank line.1 (length line.1) 0 (omega arith) (λ k low high. absurd (omega arith)) (λ some. ap is_blank at_end ∙ is.no_blank) ∙ (omega arith)

  text_indent : indent whole ≡ line.0
  text_indent =
      ap indent (append_assoc (spaces line.0) line.1 (line_end returns))
      ∙ spaces_count line.0 (line.1 ++ line_end returns) is.byte (is.more ++ line_end returns) (ap (λ (t : List ℕ). t ++ line_end returns) is.is) is.no_space

  text_content : content whole ≡ line.1
  text_content =
      ap (λ (k : ℕ). trimmed (drop k (without_end whole))) text_indent ∙ ap (λ (t : List ℕ). trimmed (drop line.0 t)) (body_by returns)
      ∙ ap trimmed (past_front line.0 line.1)
      ∙ ap (λ (k : ℕ). take (length line.1 - k) line.1) no_blank_end ∙ take_all (length line.1 - 0) line.1 (omega arith)
    where
      trimmed : List ℕ → List ℕ
      trimmed t = take (length t - suffix_len is_blank t) t

  module _ (bytes : List ℕ) (number at : ℕ) (rest : List ℕ) (here : drop at bytes ≡ whole ++ rest) where
    abbrev its_row : Row
    its_row = row_of bytes (line_at number at whole)

    row_text : its_row.text ≡ line.1
    row_text =
        let behind : List ℕ = line_end returns ++ rest in
        let split : whole ++ rest ≡ spaces line.0 ++ (line.1 ++ behind) = append_assoc body (line_end returns) rest ∙ append_assoc (spaces line.0) line.1 behind in
        let left : drop (at + line.0) bytes ≡ line.1 ++ behind = sym (drop-drop line.0 at bytes) ∙ ap (drop line.0) (here ∙ split) ∙ past_front line.0 (line.1 ++ behind) in
        let wide : at + line.0 + length line.1 - (at + line.0) ≡ length line.1 = omega arith in
        ap (λ (i : ℕ). take (at + i + length (content whole) - (at + i)) (drop (at + i) bytes)) text_indent
        ∙ ap (λ (t : List ℕ). take (at + line.0 + length t - (at + line.0)) (drop (at + line.0) bytes)) text_content
        ∙ ap (take (at + line.0 + length line.1 - (at + line.0))) left ∙ ap (λ (k : ℕ). take k (line.1 ++ behind)) wide ∙ take-append_seam line.1 behind

    text_row : TextRow its_row line
    text_row = record {
      indent = text_indent;
      text = row_text;
      content = ap is_filled (ap past_blanks (row_text ∙ is.is) ∙ past_solid is.byte is.more is.solid) ∙ ap not is.solid.no_comment;
    }

-- the row of a line that marks no documents
pub good_row : (row : Row) (line : Line) → TextRow row line → IsGood line.1 → IsRow row line
good_row row line is good = record {
  indent = is.indent;
  text = is.text;
  content = is.content;
  no_marker =
      (λ i. row.indent == 0 && ((ap (λ (t : List ℕ). bytes_eq t (codes "---")) is.text ∙ good.no_start) i || (ap (λ (t : List ℕ). bytes_eq t (codes "...")) is.text ∙ good.no_end) i || (ap (begins 37) is.text ∙ good.no_directive) i))
      ∙ and-false (row.indent == 0);
}

-- ---- notes

spaces_no_return : (k : ℕ) → list_all no_return (spaces k) ≡ true
spaces_no_return zero = refl
spaces_no_return (suc k) = spaces_no_return k

neither : (byte : ℕ) (a b : Bool) → (byte == 10) ≡ a → (byte == 13) ≡ b → not (a || b) ≡ true → (no_feed byte ≡ true) × (no_return byte ≡ true)
neither byte true b feed return plain = absurd cc
neither byte false true feed return plain = absurd cc
neither byte false false feed return plain = (ap not feed, ap not return)

comment_bytes : (comment : List ℕ) → list_all (λ (byte : ℕ). not (byte == 10 || byte == 13)) comment ≡ true → (list_all no_feed comment ≡ true) × (list_all no_return comment ≡ true)
comment_bytes [] plain = (refl, refl)
comment_bytes (x ∷ xs) plain =
    let parts = and_parts (not (x == 10 || x == 13)) (list_all (λ (byte : ℕ). not (byte == 10 || byte == 13)) xs) plain in
    let one = neither x (x == 10) (x == 13) refl refl parts.0 in
    let others = comment_bytes xs parts.1 in
    (and_from (no_feed x) (list_all no_feed xs) one.0 others.0, and_from (no_return x) (list_all no_return xs) one.1 others.1)

-- what is known of a note's body
record NoteBody (body : List ℕ) : Type 0 where
  line : IsLine body
  no_returns : list_all no_return body ≡ true
  empty : is_filled (past_blanks body) ≡ false

note_body : (lead : ℕ) (comment : Option (List ℕ)) → IsComment comment → NoteBody (spaces lead ++ note_end comment)
note_body lead None is = record {
  line = both (spaces lead) [] (spaces_line lead) (record { utf8 = IsUtf8-nil; no_feeds = refl });
  no_returns = list_all-append no_return (spaces lead) [] ∙ (λ i. spaces_no_return lead i && true);
  empty = ap is_filled (past_spaces lead []);
}
note_body lead (Some comment) is =
    let bytes = comment_bytes comment is.1 in
    record {
      line = both (spaces lead) (35 ∷ comment) (spaces_line lead) (both (35 ∷ []) comment (one_line 35 (omega arith) refl) (record { utf8 = is.0; no_feeds = bytes.0 }));
      no_returns = list_all-append no_return (spaces lead) (35 ∷ comment) ∙ (λ i. spaces_no_return lead i && bytes.1 i);
      empty = ap is_filled (past_spaces lead (35 ∷ comment));
    }

unfilled : (n : ℕ) (xs : List ℕ) → is_filled (past_blanks (take n (35 ∷ xs))) ≡ false
unfilled zero xs = refl
unfilled (suc n) xs = refl

module _ (returns : Bool) (note : Note) (is : IsComment note.comment) where
  abbrev note_whole : List ℕ
  note_whole = (spaces note.lead ++ note_end note.comment) ++ line_end returns

  known : NoteBody (spaces note.lead ++ note_end note.comment)
  known = note_body note.lead note.comment is

  note_cut_by : (b : Bool) → without_end ((spaces note.lead ++ note_end note.comment) ++ line_end b) ≡ spaces note.lead ++ note_end note.comment
  note_cut_by true = return_cut (spaces note.lead ++ note_end note.comment)
  note_cut_by false = feed_cut (spaces note.lead ++ note_end note.comment) known.no_returns

  note_cut : (rest : List ℕ) → cut (note_whole ++ rest) ≡ note_whole ∷ cut rest
  note_cut rest = cut_ended returns (spaces note.lead ++ note_end note.comment) rest known.line.no_feeds

  note_tab : tab_in note_whole ≡ None
  note_tab = no_tab_note (spaces note.lead ++ note_end note.comment) note_whole (note_cut_by returns) known.empty

  note_utf8 : IsUtf8 note_whole
  note_utf8 = IsUtf8-append (spaces note.lead ++ note_end note.comment) (line_end returns) known.line.utf8 (end_utf8 returns)

-- a note's row has no content
end_begins : (returns : Bool) → (byte : ℕ) × (more : List ℕ) × (line_end returns ≡ byte ∷ more) × ((byte == 32) ≡ false)
end_begins true = (13, 10 ∷ [], refl, refl)
end_begins false = (10, [], refl, refl)

module _ (returns : Bool) (lead : ℕ) (bytes : List ℕ) (number at : ℕ) (rest : List ℕ) where
  blank_row : drop at bytes ≡ ((spaces lead ++ []) ++ line_end returns) ++ rest → has_content (row_of bytes (line_at number at ((spaces lead ++ []) ++ line_end returns))) ≡ false
  blank_row here =
      let whole : List ℕ = (spaces lead ++ []) ++ line_end returns in
      let first = end_begins returns in
      let its_indent : indent whole ≡ lead = ap (λ (t : List ℕ). indent (t ++ line_end returns)) (append-nil (spaces lead)) ∙ spaces_count lead (line_end returns) first.0 first.1 first.2 first.3 in
      let none : content whole ≡ [] =
      ap (λ (k : ℕ). trimmed (drop k (without_end whole))) its_indent ∙ ap (λ (t : List ℕ). trimmed (drop lead t)) (note_cut_by returns (record { lead = lead; comment = None }) tt returns)
      ∙ ap trimmed (past_front lead []) in
      let zero_wide : at + lead + 0 - (at + lead) ≡ 0 = omega arith in
      ap (λ (t : List ℕ). is_filled (past_blanks t))
      (ap (λ (i : ℕ). take (at + i + length (content whole) - (at + i)) (drop (at + i) bytes)) its_indent
      ∙ ap (λ (t : List ℕ). take (at + lead + length t - (at + lead)) (drop (at + lead) bytes)) none
      ∙ ap (λ (k : ℕ). take k (drop (at + lead) bytes)) zero_wide)
    where
      trimmed : List ℕ → List ℕ
      trimmed t = take (length t - suffix_len is_blank t) t

  comment_row : (comment : List ℕ) → drop at bytes ≡ ((spaces lead ++ 35 ∷ comment) ++ line_end returns) ++ rest → has_content (row_of bytes (line_at number at ((spaces lead ++ 35 ∷ comment) ++ line_end returns))) ≡ false
  comment_row comment here =
      let whole : List ℕ = (spaces lead ++ 35 ∷ comment) ++ line_end returns in
      let behind : List ℕ = (comment ++ line_end returns) ++ rest in
      let its_indent : indent whole ≡ lead =
      ap indent (append_assoc (spaces lead) (35 ∷ comment) (line_end returns)) ∙ spaces_count lead (35 ∷ (comment ++ line_end returns)) 35 (comment ++ line_end returns) refl refl in
      let split : whole ++ rest ≡ spaces lead ++ (35 ∷ behind) =
      ap (λ (t : List ℕ). t ++ rest) (append_assoc (spaces lead) (35 ∷ comment) (line_end returns)) ∙ append_assoc (spaces lead) (35 ∷ (comment ++ line_end returns)) rest in
      let left : drop (at + lead) bytes ≡ 35 ∷ behind = sym (drop-drop lead at bytes) ∙ ap (drop lead) (here ∙ split) ∙ past_front lead (35 ∷ behind) in
      ap (λ (t : List ℕ). is_filled (past_blanks t))
      (ap (λ (i : ℕ). take (at + i + length (content whole) - (at + i)) (drop (at + i) bytes)) its_indent
      ∙ ap (take (at + lead + length (content whole) - (at + lead))) left)
      ∙ unfilled (at + lead + length (content whole) - (at + lead)) behind

note_row : (returns : Bool) (lead : ℕ) (comment : Option (List ℕ)) (bytes : List ℕ) (number at : ℕ) (rest : List ℕ) → drop at bytes ≡ ((spaces lead ++ note_end comment) ++ line_end returns) ++ rest
    → has_content (row_of bytes (line_at number at ((spaces lead ++ note_end comment) ++ line_end returns))) ≡ false
note_row returns lead None bytes number at rest here = blank_row returns lead bytes number at rest here
note_row returns lead (Some comment) bytes number at rest here = comment_row returns lead bytes number at rest comment here

-- ---- the whole text

abbrev pub IsPieceRow : Row → Piece → Type 0
IsPieceRow row (Content line) = TextRow row line
IsPieceRow row (Remark note) = has_content row ≡ false

abbrev pub RowsOf : List Row → List Piece → Type 0
RowsOf [] [] = Unit {0}
RowsOf [] (piece ∷ others) = ⊥
RowsOf (row ∷ rows) [] = ⊥
RowsOf (row ∷ rows) (piece ∷ others) = IsPieceRow row piece × RowsOf rows others

module _ (returns : Bool) where
  abbrev text_of : List Piece → List ℕ
  text_of ps = flat_map (piece_text returns) ps

  abbrev texts : List Piece → List (List ℕ)
  texts ps = map (piece_text returns) ps

  piece_cut : (piece : Piece) (rest : List ℕ) → IsPiece piece → cut (piece_text returns piece ++ rest) ≡ piece_text returns piece ∷ cut rest
  piece_cut (Content line) rest is = text_cut returns line is rest
  piece_cut (Remark note) rest is = note_cut returns note is rest

  piece_tab : (piece : Piece) → IsPiece piece → tab_in (piece_text returns piece) ≡ None
  piece_tab (Content line) is = text_tab returns line is
  piece_tab (Remark note) is = note_tab returns note is

  piece_utf8 : (piece : Piece) → IsPiece piece → IsUtf8 (piece_text returns piece)
  piece_utf8 (Content line) is = text_utf8 returns line is
  piece_utf8 (Remark note) is = note_utf8 returns note is

  piece_row : (piece : Piece) → IsPiece piece → (bytes : List ℕ) (number at : ℕ) (rest : List ℕ) → drop at bytes ≡ piece_text returns piece ++ rest → IsPieceRow (row_of bytes (line_at number at (piece_text returns piece))) piece
  piece_row (Content line) is bytes number at rest here = text_row returns line is bytes number at rest here
  piece_row (Remark note) is bytes number at rest here = note_row returns note.lead note.comment bytes number at rest here

  cut_all : (ps : List Piece) → ArePieces ps → cut (text_of ps) ≡ texts ps
  unfolding cut
  cut_all [] is = refl
  cut_all (p ∷ ps) is = piece_cut p (text_of ps) is.0 ∙ ap (λ (ls : List (List ℕ)). piece_text returns p ∷ ls) (cut_all ps is.1)

  no_tabs : (at : ℕ) (ps : List Piece) → ArePieces ps → tab_from at (texts ps) ≡ None
  unfolding tab_from
  no_tabs at [] is = refl
  no_tabs at (p ∷ ps) is = (λ i. tab_or at (piece_tab p is.0 i) (no_tabs (at + length (piece_text returns p)) ps is.1 i))

  all_utf8 : (ps : List Piece) → ArePieces ps → IsUtf8 (text_of ps)
  all_utf8 [] is = IsUtf8-nil
  all_utf8 (p ∷ ps) is = IsUtf8-append (piece_text returns p) (text_of ps) (piece_utf8 p is.0) (all_utf8 ps is.1)

  pub rows_are : (bytes : List ℕ) (number at : ℕ) (ps : List Piece) → ArePieces ps → drop at bytes ≡ text_of ps → RowsOf (map (row_of bytes) (lines_from number at (texts ps))) ps
  unfolding lines_from
  rows_are bytes number at [] is here = tt
  rows_are bytes number at (p ∷ ps) is here =
      let next : drop (at + length (piece_text returns p)) bytes ≡ text_of ps =
      sym (drop-drop (length (piece_text returns p)) at bytes) ∙ ap (drop (length (piece_text returns p))) here ∙ drop-append_seam (piece_text returns p) (text_of ps) in
      (piece_row p is.0 bytes number at (text_of ps) here, rows_are bytes (number + 1) (at + length (piece_text returns p)) ps is.1 next)

  -- ---- the front

  text_unmarked : (i : ℕ) (t rest : List ℕ) → IsText t → mark_length (((spaces i ++ t) ++ line_end returns) ++ rest) ≡ 0
  text_unmarked zero t rest is = ap (λ (x : List ℕ). mark_length ((x ++ line_end returns) ++ rest)) is.is ∙ no_mark is.byte ((is.more ++ line_end returns) ++ rest) is.no_mark
  text_unmarked (suc i) t rest is = no_mark 32 (((spaces i ++ t) ++ line_end returns) ++ rest) refl

  end_unmarked : (b : Bool) (rest : List ℕ) → mark_length (line_end b ++ rest) ≡ 0
  end_unmarked true rest = no_mark 13 (10 ∷ rest) refl
  end_unmarked false rest = no_mark 10 rest refl

  note_unmarked : (lead : ℕ) (comment : Option (List ℕ)) (rest : List ℕ) → mark_length (((spaces lead ++ note_end comment) ++ line_end returns) ++ rest) ≡ 0
  note_unmarked zero None rest = end_unmarked returns rest
  note_unmarked zero (Some comment) rest = no_mark 35 ((comment ++ line_end returns) ++ rest) refl
  note_unmarked (suc lead) comment rest = no_mark 32 (((spaces lead ++ note_end comment) ++ line_end returns) ++ rest) refl

  unmarked : (ps : List Piece) → ArePieces ps → mark_length (text_of ps) ≡ 0
  unmarked [] is = refl
  unmarked (Content line ∷ ps) is = text_unmarked line.0 line.1 (text_of ps) is.0
  unmarked (Remark note ∷ ps) is = note_unmarked note.lead note.comment (text_of ps)

  marked : (mark : Bool) (ps : List Piece) → ArePieces ps → mark_length (byte_order_mark mark ++ text_of ps) ≡ length (byte_order_mark mark)
  marked true ps is = refl
  marked false ps is = unmarked ps is

  mark_utf8 : (mark : Bool) → IsUtf8 (byte_order_mark mark)
  unfolding is_utf8 chars encode
  mark_utf8 true = IsUtf8-from_is_utf8 (239 ∷ 187 ∷ 191 ∷ []) refl
  mark_utf8 false = IsUtf8-nil

  pub many_lines : (file : ℕ) (mark : Bool) (ps : List Piece) → ArePieces ps → scan file (byte_order_mark mark ++ text_of ps) ≡ Ok (lines_from 1 (length (byte_order_mark mark)) (texts ps))
  many_lines file mark ps is =
      let front : List ℕ = byte_order_mark mark in
      let bytes : List ℕ = front ++ text_of ps in
      let long : mark_length bytes ≡ length front = marked mark ps is in
      let cuts : cut (drop (mark_length bytes) bytes) ≡ texts ps = ap (λ (k : ℕ). cut (drop k bytes)) long ∙ ap cut (drop-append_seam front (text_of ps)) ∙ cut_all ps is in
      let whole : utf8_valid_len bytes ≡ length bytes = utf8_valid_len-IsUtf8 bytes (IsUtf8-append front (text_of ps) (mark_utf8 mark) (all_utf8 ps is)) in
      let no_bad : bad_byte bytes ≡ None = cond-false (nat_lt (utf8_valid_len bytes) (length bytes)) _ _ (le-ltb (utf8_valid_len bytes) (length bytes) (omega (arith, whole))) in
      let untabbed : tab_indent bytes ≡ None = ap (tab_from (mark_length bytes)) cuts ∙ no_tabs (mark_length bytes) ps is in
      (λ i. told file bytes (no_bad i) (untabbed i)) ∙ (λ i. Ok (lines_from 1 (long i) (cuts i)))
