-- The scalars of a text's tree are whole characters, since the text is.
use Rattle.std.proofs.Common.{◌≡◌, ℕ, zero, suc, ◌+◌, ◌-◌, ◌<◌, ◌≤◌, Bool, true, false, ◌&&◌, ◌==◌, if◌then◌else◌, nat_lt, codes, List, [], ◌∷◌, ◌++◌, length, map, take, drop, Option, None, Some, Result, Ok, Err, IsUtf8, refl, sym, ap, ◌∙◌, subst, inl, inr, arith}
use Rattle.std.specs.Prelude.{◌⊎◌}
use Rattle.std.specs.List.{suffix_len}
use Rattle.std.specs.Str.{bytes_eq, is_utf8}
use Rattle.std.specs.Str.Lossy.{utf8_valid_len, valid_len_up_to}
use Rattle.std.proofs.lemmas.Bool.{and_parts, cases_Bool, cases_eq, cond-true, cond-false, eqb-true, ne_eqb}
use Rattle.std.proofs.lemmas.Bool.Decides.{nat_tests}
use Rattle.std.proofs.lemmas.List.{drop-drop, drop_at}
use Rattle.std.proofs.lemmas.Str.{IsUtf8-from_is_utf8, IsUtf8-nil, IsUtf8-past_char}
use lib.Utf8.{encode}
use Rattle.dp_base.specs.Bytes.{is_blank}
use Rattle.yaml_scan.specs.Bytes.{mark_length, before_first, cut, without_end, indent, content}
use Rattle.yaml_scan.specs.Faults.{bad_byte, tab_indent}
use Rattle.yaml_scan.specs.Lines.{lines_from, lines_of}
use Rattle.yaml_scan.specs.Scan.{told, scan}
use Rattle.yaml_scan.specs.declared.line.Line.{Line}
use Rattle.yaml_scan.specs.declared.line.ScanEnd.{ScanEnd}
use Rattle.yaml_tree.specs.Rest.{Row, row_of, Rest, front}
use Rattle.yaml_tree.specs.Lines.{from_content, is_marker}
use Rattle.yaml_tree.specs.Flow.{Outcome}
use Rattle.yaml_tree.specs.Blocks.{BlockNode}
use Rattle.yaml_tree.specs.Texts.{most_levels, before_lines, place_in, past_start, nothing_below, whole_text, TopNode, OfLines, Reads}
use Rattle.yaml_tree.specs.declared.tree.Tree.{Tree}
use Rattle.yaml_tree.specs.declared.tree.Tree.TheVariants as trees
use Rattle.yaml_tree.proofs.Sizes.{chosen, which}
use Rattle.content_guards.proofs.Whole.{whole, step, low_step, no_bytes, utf8_whole, whole_utf8}
use Rattle.content_guards.proofs.WholeScalars.{AreWhole, content_whole, take_whole, trim_whole}
use Rattle.content_guards.proofs.WholeTrees.{is_whole, scalar_whole}
use Rattle.content_guards.proofs.WholeForms.{Made}
use Rattle.content_guards.proofs.WholeNodes.{node_made}

-- ---- a text that is not refused for its bytes

front_utf8 : (bytes : List ℕ) (n : ℕ) → IsUtf8 (take (valid_len_up_to bytes n) bytes)
front_utf8 bytes zero = IsUtf8-nil
front_utf8 bytes (suc n) = elim (cases_Bool (is_utf8 (take (suc n) bytes))) [
  | inl is ↦ subst (λ (k : ℕ). IsUtf8 (take k bytes)) (sym (cond-true (is_utf8 (take (suc n) bytes)) (suc n) (valid_len_up_to bytes n) is)) (IsUtf8-from_is_utf8 (take (suc n) bytes) is)
  | inr isnt ↦ subst (λ (k : ℕ). IsUtf8 (take k bytes)) (sym (cond-false (is_utf8 (take (suc n) bytes)) (suc n) (valid_len_up_to bytes n) isnt)) (front_utf8 bytes n)
]

all_utf8 : (bytes : List ℕ) → length bytes ≤ utf8_valid_len bytes → IsUtf8 bytes
unfolding utf8_valid_len
all_utf8 bytes long = subst IsUtf8 (take_whole (valid_len_up_to bytes (length bytes)) bytes long) (front_utf8 bytes (length bytes))

pub bytes_whole : (bytes : List ℕ) → bad_byte bytes ≡ None → whole [] bytes ≡ true
bytes_whole bytes fine = elim (cases_Bool (nat_lt (utf8_valid_len bytes) (length bytes))) [
  | inl short ↦ let no : Some (utf8_valid_len bytes) ≡ None = sym (cond-true (nat_lt (utf8_valid_len bytes) (length bytes)) (Some (utf8_valid_len bytes)) None short) ∙ fine in absurd (cc no)
  | inr not_short ↦ utf8_whole bytes (all_utf8 bytes (let test : nat_lt (utf8_valid_len bytes) (length bytes) ≡ false = not_short in grind (arith, nat_tests)))
]

-- ---- lines as parts of a text

abbrev together : List (List ℕ) → List ℕ
together [] = []
together (line ∷ lines) = line ++ together lines

abbrev EndsInFeed : List ℕ → Type 0
EndsInFeed [] = ⊥
EndsInFeed (byte ∷ []) = byte ≡ 10
EndsInFeed (byte ∷ next ∷ bytes) = EndsInFeed (next ∷ bytes)

-- Each line but the last one ends in a line feed.
abbrev AreLines : List (List ℕ) → Type 0
AreLines [] = Unit {0}
AreLines (line ∷ lines) = ((together lines ≡ []) ⊎ EndsInFeed line) × AreLines lines

feed_longer : (byte : ℕ) (line : List ℕ) → EndsInFeed line → EndsInFeed (byte ∷ line)
feed_longer byte [] h = absurd h
feed_longer byte (next ∷ line) h = h

first_longer : (byte : ℕ) (lines : List (List ℕ)) → AreLines lines → AreLines (before_first byte lines)
first_longer byte [] h = (inl refl, tt)
first_longer byte (line ∷ lines) (ends, others) = (elim ends [ inl e ↦ inl e | inr e ↦ inr (feed_longer byte line e) ], others)

together_longer : (byte : ℕ) (lines : List (List ℕ)) → together (before_first byte lines) ≡ byte ∷ together lines
together_longer byte [] = refl
together_longer byte (line ∷ lines) = refl

abbrev IsCut : List ℕ → List (List ℕ) → Type 0
IsCut bytes lines = AreLines lines × (together lines ≡ bytes)

cut_lines : (bytes : List ℕ) → IsCut bytes (cut bytes)
unfolding cut
cut_lines [] = (tt, refl)
cut_lines (byte ∷ bytes) = by (byte == 10) refl (cut_lines bytes)
  where
    by : (b : Bool) → (byte == 10) ≡ b → IsCut bytes (cut bytes) → IsCut (byte ∷ bytes) (if b then (byte ∷ []) ∷ cut bytes else before_first byte (cut bytes))
    by true e rest = ((inr (eqb-true byte 10 e), rest.0), ap (λ (l : List ℕ). byte ∷ l) rest.1)
    by false e rest = (first_longer byte (cut bytes) rest.0, together_longer byte (cut bytes) ∙ ap (λ (l : List ℕ). byte ∷ l) rest.1)

-- ---- one line

-- nothing, or a byte of ASCII first
abbrev IsLow : List ℕ → Type 0
IsLow [] = Unit {0}
IsLow (byte ∷ bytes) = byte < 128

front_whole : (n xs tail : List ℕ) → IsLow tail → whole n (xs ++ tail) ≡ true → whole n xs ≡ true
front_whole n [] [] low h = h
front_whole n [] (byte ∷ tail) low h = (low_step n byte tail low h).0
front_whole n (x ∷ xs) tail low h = let s = step n x (xs ++ tail) h in s.again xs (front_whole s.left xs tail low s.rest)

-- the lines behind one
behind_feed : (n line more : List ℕ) → EndsInFeed line → whole n (line ++ more) ≡ true → whole [] more ≡ true
behind_feed n [] more ends h = absurd ends
behind_feed n (byte ∷ []) more ends h = (low_step n byte more (omega (arith, ends)) h).1
behind_feed n (byte ∷ next ∷ line) more ends h = let s = step n byte (next ∷ (line ++ more)) h in behind_feed s.left (next ∷ line) more ends s.rest

more_whole : (line more : List ℕ) → (more ≡ []) ⊎ EndsInFeed line → whole [] (line ++ more) ≡ true → whole [] more ≡ true
more_whole line more ends h = elim ends [
  | inl none ↦ subst (λ (l : List ℕ). whole [] l ≡ true) (sym none) no_bytes
  | inr feed ↦ behind_feed [] line more feed h
]

-- what stands before the end of a line, and from there on
record Ended (front all : List ℕ) : Type 0 where
  tail : List ℕ
  is : all ≡ front ++ tail
  low : IsLow tail

one_more : (byte : ℕ) (front all : List ℕ) → Ended front all → Ended (byte ∷ front) (byte ∷ all)
one_more byte front all e = record { tail = e.tail; is = ap (λ (l : List ℕ). byte ∷ l) e.is; low = e.low }

ended : (line more : List ℕ) → (more ≡ []) ⊎ EndsInFeed line → Ended (without_end line) (line ++ more)
ended [] more ends = elim ends [
  | inl none ↦ record { tail = more; is = refl; low = subst IsLow (sym none) tt }
  | inr feed ↦ absurd feed
]
ended (byte ∷ []) more ends = by (byte == 10) refl
  where
    by : (b : Bool) → (byte == 10) ≡ b → Ended (if b then [] else byte ∷ []) (byte ∷ more)
    by true e = let same = eqb-true byte 10 e in record { tail = byte ∷ more; is = refl; low = omega (arith, same) }
    by false e = record { tail = more; is = refl; low = elim ends [ inl none ↦ subst IsLow (sym none) tt | inr feed ↦ absurd (let no : false ≡ true = sym e ∙ ap (λ (k : ℕ). k == 10) feed in cc no) ] }
ended (byte ∷ next ∷ []) more ends = by (byte == 13) (next == 10) refl (ended (next ∷ []) more ends)
  where
    by : (b c : Bool) → (byte == 13) ≡ b → Ended (without_end (next ∷ [])) (next ∷ more) → Ended (if b && c then [] else byte ∷ without_end (next ∷ [])) (byte ∷ next ∷ more)
    by true true e rest = let same = eqb-true byte 13 e in record { tail = byte ∷ next ∷ more; is = refl; low = omega (arith, same) }
    by true false e rest = one_more byte (without_end (next ∷ [])) (next ∷ more) rest
    by false c e rest = one_more byte (without_end (next ∷ [])) (next ∷ more) rest
ended (byte ∷ next ∷ third ∷ line) more ends = one_more byte (without_end (next ∷ third ∷ line)) (next ∷ third ∷ (line ++ more)) (ended (next ∷ third ∷ line) more ends)

-- the leading spaces are none of a line's end
indent_within : (line : List ℕ) → indent line ≤ length (without_end line)
indent_within [] = omega arith
indent_within (byte ∷ []) =
    elim (cases_eq byte 32) [
      | inl space ↦ rw space (omega arith)
      | inr other ↦ rw (ne_eqb byte 32 other) (omega arith)
    ]
indent_within (byte ∷ next ∷ []) =
    elim (cases_eq byte 32) [
      | inl space ↦ rw space (omega (arith, indent_within (next ∷ [])))
      | inr other ↦ rw (ne_eqb byte 32 other) (omega arith)
    ]
indent_within (byte ∷ next ∷ third ∷ line) =
    elim (cases_eq byte 32) [
      | inl space ↦ rw space (omega (arith, indent_within (next ∷ third ∷ line)))
      | inr other ↦ rw (ne_eqb byte 32 other) (omega arith)
    ]

-- behind the leading spaces
spaces_passed : (line more : List ℕ) → whole [] (line ++ more) ≡ true → whole [] (drop (indent line) (line ++ more)) ≡ true
spaces_passed [] more h = h
spaces_passed (byte ∷ line) more h = elim (cases_Bool (byte == 32)) [
  | inl space ↦
      let same : byte ≡ 32 = eqb-true byte 32 space in
      let rest = spaces_passed line more (low_step [] byte (line ++ more) (omega (arith, same)) h).1 in
      let count : indent (byte ∷ line) ≡ suc (indent line) = cond-true (byte == 32) (1 + indent line) 0 space ∙ (let e : 1 + indent line ≡ suc (indent line) = omega arith in e) in
      subst (λ (k : ℕ). whole [] (drop k (byte ∷ (line ++ more))) ≡ true) (sym count) rest
  | inr other ↦
      let count : indent (byte ∷ line) ≡ 0 = cond-false (byte == 32) (1 + indent line) 0 other in
      subst (λ (k : ℕ). whole [] (drop k (byte ∷ (line ++ more))) ≡ true) (sym count) h
]

drop_front : (k : ℕ) (xs ys : List ℕ) → k ≤ length xs → drop k (xs ++ ys) ≡ drop k xs ++ ys
drop_front zero xs ys le = refl
drop_front (suc k) [] ys le = absurd (omega arith)
drop_front (suc k) (x ∷ xs) ys le = drop_front k xs ys (omega arith)

take_front : (k : ℕ) (xs ys : List ℕ) → take (length (take k xs)) (xs ++ ys) ≡ take k xs
take_front zero xs ys = refl
take_front (suc k) [] ys = refl
take_front (suc k) (x ∷ xs) ys = ap (λ (l : List ℕ). x ∷ l) (take_front k xs ys)

-- what stands in a line behind its leading spaces
text_whole : (line more : List ℕ) → (more ≡ []) ⊎ EndsInFeed line → whole [] (line ++ more) ≡ true → whole [] (take (length (content line)) (drop (indent line) (line ++ more))) ≡ true
text_whole line more ends h =
    let text : List ℕ = drop (indent line) (without_end line) in
    let count : ℕ = length text - suffix_len is_blank text in
    let e = ended line more ends in
    let split : drop (indent line) (line ++ more) ≡ text ++ e.tail = ap (drop (indent line)) e.is ∙ drop_front (indent line) (without_end line) e.tail (indent_within line) in
    let good : whole [] (text ++ e.tail) ≡ true = subst (λ (l : List ℕ). whole [] l ≡ true) split (spaces_passed line more h) in
    let inside : whole [] (take count text) ≡ true = trim_whole text count refl (front_whole [] text e.tail e.low good) in
    let same : take (length (content line)) (drop (indent line) (line ++ more)) ≡ take count text = ap (take (length (content line))) split ∙ take_front count text e.tail in
    subst (λ (l : List ℕ). whole [] l ≡ true) (sym same) inside

-- ---- all lines

rows_whole : (bytes : List ℕ) (number at : ℕ) (lines : List (List ℕ)) → drop at bytes ≡ together lines → AreLines lines → whole [] (together lines) ≡ true → AreWhole (map (row_of bytes) (lines_from number at lines))
unfolding lines_from
rows_whole bytes number at [] is ends h = tt
rows_whole bytes number at (line ∷ lines) is (ends, others) h =
    let more : List ℕ = together lines in
    let left : drop (at + length line) bytes ≡ more = sym (drop-drop (length line) at bytes) ∙ ap (drop (length line)) is ∙ drop_at line more (length line) refl in
    let long : at + indent line + length (content line) - (at + indent line) ≡ length (content line) = omega arith in
    let start : drop (at + indent line) bytes ≡ drop (indent line) (line ++ more) = sym (drop-drop (indent line) at bytes) ∙ ap (drop (indent line)) is in
    let text : take (at + indent line + length (content line) - (at + indent line)) (drop (at + indent line) bytes) ≡ take (length (content line)) (drop (indent line) (line ++ more)) =
    ap (λ (k : ℕ). take k (drop (at + indent line) bytes)) long ∙ ap (take (length (content line))) start in
    (subst (λ (l : List ℕ). whole [] l ≡ true) (sym text) (text_whole line more ends h), rows_whole bytes (number + 1) (at + length line) lines left others (more_whole line more ends h))

-- a byte order mark is one character
mark_is : encode 65279 ≡ 239 ∷ 187 ∷ 191 ∷ []
unfolding encode
mark_is = refl

mark_passed : (bytes : List ℕ) → whole [] (239 ∷ 187 ∷ 191 ∷ bytes) ≡ true → whole [] bytes ≡ true
mark_passed bytes h =
    let all : List ℕ = 239 ∷ 187 ∷ 191 ∷ bytes in
    let begins : all ≡ encode 65279 ++ bytes = ap (λ (l : List ℕ). l ++ bytes) (sym mark_is) in
    utf8_whole bytes (IsUtf8-past_char all bytes 65279 (whole_utf8 all h) begins)

past_mark : (bytes : List ℕ) → whole [] bytes ≡ true → whole [] (drop (mark_length bytes) bytes) ≡ true
past_mark [] h = h
past_mark (a ∷ []) h = h
past_mark (a ∷ b ∷ []) h = h
past_mark (a ∷ b ∷ c ∷ bytes) h = elim (cases_Bool (a == 239 && b == 187 && c == 191)) [
  | inl mark ↦
      let both = and_parts (a == 239 && b == 187) (c == 191) mark in
      let first = and_parts (a == 239) (b == 187) both.0 in
      let one : whole [] (239 ∷ b ∷ c ∷ bytes) ≡ true = subst (λ (k : ℕ). whole [] (k ∷ b ∷ c ∷ bytes) ≡ true) (eqb-true a 239 first.0) h in
      let two : whole [] (239 ∷ 187 ∷ c ∷ bytes) ≡ true = subst (λ (k : ℕ). whole [] (239 ∷ k ∷ c ∷ bytes) ≡ true) (eqb-true b 187 first.1) one in
      let three : whole [] (239 ∷ 187 ∷ 191 ∷ bytes) ≡ true = subst (λ (k : ℕ). whole [] (239 ∷ 187 ∷ k ∷ bytes) ≡ true) (eqb-true c 191 both.1) two in
      let count : mark_length (a ∷ b ∷ c ∷ bytes) ≡ 3 = cond-true (a == 239 && b == 187 && c == 191) 3 0 mark in
      subst (λ (k : ℕ). whole [] (drop k (a ∷ b ∷ c ∷ bytes)) ≡ true) (sym count) (mark_passed bytes three)
  | inr none ↦
      let count : mark_length (a ∷ b ∷ c ∷ bytes) ≡ 0 = cond-false (a == 239 && b == 187 && c == 191) 3 0 none in
      subst (λ (k : ℕ). whole [] (drop k (a ∷ b ∷ c ∷ bytes)) ≡ true) (sym count) h
]

lines_whole : (bytes : List ℕ) → whole [] bytes ≡ true → AreWhole (map (row_of bytes) (lines_of bytes))
lines_whole bytes h =
    let rest : List ℕ = drop (mark_length bytes) bytes in
    let lines = cut_lines rest in
    rows_whole bytes 1 (mark_length bytes) (cut rest) (sym lines.1) lines.0 (subst (λ (l : List ℕ). whole [] l ≡ true) (sym lines.1) (past_mark bytes h))

told_fine : (file : ℕ) (bytes : List ℕ) (bad tab : Option ℕ) (lines : List Line) → told file bytes bad tab ≡ Ok lines → (bad ≡ None) × (lines ≡ lines_of bytes)
told_fine file bytes None None lines is = (refl, cc)
told_fine file bytes (Some bad) None lines is = absurd (cc is)
told_fine file bytes None (Some tab) lines is = absurd (cc is)
told_fine file bytes (Some bad) (Some tab) lines is =
    elim (chosen (nat_lt bad tab) _ _ _ is) [
      | inl h ↦ absurd (cc h.1)
      | inr h ↦ absurd (cc h.1)
    ]

-- ---- the tree

start_whole : (rows : List Row) → AreWhole rows → AreWhole (past_start rows)
start_whole [] h = tt
start_whole (row ∷ rows) h = by (row.indent == 0 && bytes_eq row.text (codes "---"))
  where
    by : (b : Bool) → AreWhole (if b then from_content rows else row ∷ rows)
    by true = content_whole rows h.1
    by false = h

none_below : (file : ℕ) (tree : Tree) (rows : List Row) (read : Tree) → nothing_below file tree rows ≡ Ok read → tree ≡ read
none_below file tree [] read is = cc
none_below file tree (row ∷ rows) read is = absurd (cc is)

whole_text_whole : (file : ℕ) (node : Outcome) → ((x : Tree × Rest) → node ≡ Ok x → Made x) → (tree : Tree) → whole_text file node ≡ Ok tree → is_whole tree ≡ true
whole_text_whole file (Ok x) made tree is = subst (λ (t : Tree). is_whole t ≡ true) (none_below file x.0 x.1.below tree is) (made x refl).0
whole_text_whole file (Err e) made tree is = absurd (cc is)

top_whole : (file : ℕ) (start : Rest) (rows : List Row) (tree : Tree) → AreWhole rows → TopNode file start rows (Ok tree) → is_whole tree ≡ true
top_whole file start [] tree h is =
    let e : trees.Scalar (place_in file 1 1) [] ≡ tree = cc is in subst (λ (t : Tree). is_whole t ≡ true) e (scalar_whole (place_in file 1 1) [] no_bytes)
top_whole file start (row ∷ rows) tree h is =
    elim (which (is_marker row) _ _ is) [
      | inl m ↦ absurd (cc m.1)
      | inr m ↦ whole_text_whole file m.1.0 (λ x e. node_made most_levels 0 (front start row rows) x h (subst (BlockNode most_levels 0 (front start row rows)) e m.1.1)) tree (sym m.1.2)
    ]

of_lines_whole : (file : ℕ) (bytes : List ℕ) (lines : Result (List Line) ScanEnd) (tree : Tree) → ((found : List Line) → lines ≡ Ok found → (bad_byte bytes ≡ None) × (found ≡ lines_of bytes)) → OfLines file bytes lines (Ok tree) → is_whole tree ≡ true
of_lines_whole file bytes (Err e) tree are is = absurd (cc is)
of_lines_whole file bytes (Ok lines) tree are is =
    let rows : List Row = map (row_of bytes) lines in
    let found = are lines refl in
    let good : AreWhole rows = subst (λ (ls : List Line). AreWhole (map (row_of bytes) ls)) (sym found.1) (lines_whole bytes (bytes_whole bytes found.0)) in
    top_whole file (before_lines file rows) (past_start (from_content rows)) tree (start_whole (from_content rows) (content_whole rows good)) is

-- the scalars of the tree that a text spells are whole characters
pub reads_whole : (file : ℕ) (bytes : List ℕ) (tree : Tree) → Reads file bytes (Ok tree) → is_whole tree ≡ true
reads_whole file bytes tree is = of_lines_whole file bytes (scan file bytes) tree (λ found e. told_fine file bytes (bad_byte bytes) (tab_indent bytes) found e) is
