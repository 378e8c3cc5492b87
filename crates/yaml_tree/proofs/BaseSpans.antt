-- The lines of a text are spans between its characters.
use Rattle.std.proofs.Common.{◌≡◌, ℕ, zero, suc, ◌+◌, ◌-◌, ◌<◌, ◌≤◌, true, ◌⊎◌, inl, inr, List, [], ◌∷◌, ◌++◌, length, drop, get_or, reverse, eqb, ◌&&◌, IsCharBoundary, IsUtf8, refl, sym, ap, ◌∙◌, subst, arith, add-one, length-append, length-take, length-drop}
use Rattle.std.specs.List.{All, suffix_len}
use Rattle.std.proofs.lemmas.List.{get_or-drop, get_or_append_left, drop_at, drop-drop, get_or-reverse}
use Rattle.std.proofs.lemmas.List.Elements.{All-nil, All-cons}
use Rattle.std.proofs.lemmas.List.Sums.{prefix_len-le-length, prefix_len_passes, suffix_len-le-length}
use Rattle.std.proofs.lemmas.Str.{IsCharBoundary-start, IsCharBoundary-end, IsCharBoundary-after_ascii, IsCharBoundary-from_rest, IsCharBoundary-past_char, IsUtf8-drop}
use lib.Utf8.{encode}
use Rattle.std.proofs.lemmas.Bool.{eqb-true, eqb-false, and_parts, cond_both, cases_lt}
use Rattle.dp_base.specs.Bytes.{is_blank}
use Rattle.yaml_scan.specs.Bytes.{is_space, mark_length, before_first, cut, without_end, indent, content}
use Rattle.yaml_scan.specs.Lines.{line_at, lines_from, lines_of}
use Rattle.yaml_tree.specs.Rest.{IsSpan}
use Rattle.yaml_tree.proofs.BasePoints.{IsCharBoundary-before, below-blank}

-- ---- lines as parts of the text

abbrev joined : List (List ℕ) → List ℕ
joined [] = []
joined (line ∷ lines) = line ++ joined lines

abbrev EndsInFeed : List ℕ → Type 0
EndsInFeed [] = ⊥
EndsInFeed (byte ∷ []) = byte ≡ 10
EndsInFeed (byte ∷ next ∷ bytes) = EndsInFeed (next ∷ bytes)

-- Each line but the last one ends in a line feed.
abbrev AreLines : List (List ℕ) → Type 0
AreLines [] = Unit {0}
AreLines (line ∷ lines) = ((joined lines ≡ []) ⊎ EndsInFeed line) × AreLines lines

feed-longer : (byte : ℕ) (line : List ℕ) → EndsInFeed line → EndsInFeed (byte ∷ line)
feed-longer byte [] h = absurd h
feed-longer byte (next ∷ line) h = h

first-longer : (byte : ℕ) (lines : List (List ℕ)) → AreLines lines → AreLines (before_first byte lines)
first-longer byte [] h = (inl refl, tt)
first-longer byte (line ∷ lines) (ends, others) = (elim ends [ inl e ↦ inl e | inr e ↦ inr (feed-longer byte line e) ], others)

joined-longer : (byte : ℕ) (lines : List (List ℕ)) → joined (before_first byte lines) ≡ byte ∷ joined lines
joined-longer byte [] = refl
joined-longer byte (line ∷ lines) = refl

AreLines-cut : (bytes : List ℕ) → AreLines (cut bytes)
unfolding cut
AreLines-cut [] = tt
AreLines-cut (byte ∷ bytes) =
    cond_both (eqb byte 10) ((byte ∷ []) ∷ cut bytes) (before_first byte (cut bytes)) AreLines
    (λ e. (inr (eqb-true byte 10 e), AreLines-cut bytes))
    (λ e. first-longer byte (cut bytes) (AreLines-cut bytes))

joined-cut : (bytes : List ℕ) → joined (cut bytes) ≡ bytes
unfolding cut
joined-cut [] = refl
joined-cut (byte ∷ bytes) =
    let more : byte ∷ joined (cut bytes) ≡ byte ∷ bytes = ap (λ (rest : List ℕ). byte ∷ rest) (joined-cut bytes) in
    cond_both (eqb byte 10) ((byte ∷ []) ∷ cut bytes) (before_first byte (cut bytes)) (λ lines. joined lines ≡ byte ∷ bytes)
    (λ e. more)
    (λ e. joined-longer byte (cut bytes) ∙ more)

-- ---- one line

length-without_end : (line : List ℕ) → length (without_end line) ≤ length line
length-without_end [] = omega arith
length-without_end (byte ∷ []) =
    cond_both (eqb byte 10) [] (byte ∷ []) (λ (xs : List ℕ). length xs ≤ 1) (λ e. omega arith) (λ e. omega arith)
length-without_end (byte ∷ next ∷ []) =
    let others = length-without_end (next ∷ []) in
    cond_both (eqb byte 13 && eqb next 10) [] (byte ∷ without_end (next ∷ [])) (λ (xs : List ℕ). length xs ≤ 2) (λ e. omega arith) (λ e. omega arith)
length-without_end (byte ∷ next ∷ third ∷ line) =
    let others = length-without_end (next ∷ third ∷ line) in omega arith

same-behind : (byte : ℕ) (xs ys : List ℕ) → ((k : ℕ) → k < length xs → get_or xs k 0 ≡ get_or ys k 0) → (k : ℕ) → k < suc (length xs) → get_or (byte ∷ xs) k 0 ≡ get_or (byte ∷ ys) k 0
same-behind byte xs ys same zero h = refl
same-behind byte xs ys same (suc k) h = same k (omega arith)

get_or-without_end : (line : List ℕ) (k : ℕ) → k < length (without_end line) → get_or (without_end line) k 0 ≡ get_or line k 0
get_or-without_end [] k h = refl
get_or-without_end (byte ∷ []) k h =
    cond_both (eqb byte 10) [] (byte ∷ []) (λ (xs : List ℕ). k < length xs → get_or xs k 0 ≡ get_or (byte ∷ []) k 0) (λ e within. absurd (omega arith)) (λ e within. refl) h
get_or-without_end (byte ∷ next ∷ []) k h =
    cond_both (eqb byte 13 && eqb next 10) [] (byte ∷ without_end (next ∷ [])) (λ (xs : List ℕ). k < length xs → get_or xs k 0 ≡ get_or (byte ∷ next ∷ []) k 0) (λ e within. absurd (omega arith)) (λ e. same-behind byte (without_end (next ∷ [])) (next ∷ []) (get_or-without_end (next ∷ [])) k) h
get_or-without_end (byte ∷ next ∷ third ∷ line) k h =
    same-behind byte (without_end (next ∷ third ∷ line)) (next ∷ third ∷ line) (get_or-without_end (next ∷ third ∷ line)) k h

-- What follows a line without its end is a byte of ASCII, or nothing.
low-end : (line more : List ℕ) → (more ≡ []) ⊎ EndsInFeed line → length (without_end line) < length (line ++ more) → get_or (line ++ more) (length (without_end line)) 0 < 128
low-end [] more ends h = elim ends [ inl e ↦ absurd (omega (arith, ap length e)) | inr f ↦ absurd f ]
low-end (byte ∷ []) more ends h =
    cond_both (eqb byte 10) [] (byte ∷ []) (λ (xs : List ℕ). length xs < suc (length more) → get_or (byte ∷ more) (length xs) 0 < 128)
    (λ e within. omega (arith, eqb-true byte 10 e))
    (λ e within. elim ends [ inl none ↦ absurd (omega (arith, ap length none)) | inr f ↦ absurd (eqb-false byte 10 e f) ])
    h
low-end (byte ∷ next ∷ []) more ends h =
    cond_both (eqb byte 13 && eqb next 10) [] (byte ∷ without_end (next ∷ [])) (λ (xs : List ℕ). length xs < suc (suc (length more)) → get_or (byte ∷ next ∷ more) (length xs) 0 < 128)
    (λ e within. omega (arith, eqb-true byte 13 (and_parts (eqb byte 13) (eqb next 10) e).0))
    (λ e within. low-end (next ∷ []) more ends (omega arith))
    h
low-end (byte ∷ next ∷ third ∷ line) more ends h = low-end (next ∷ third ∷ line) more ends (omega arith)

-- the first of the blanks at the end
blank-behind : (bytes : List ℕ) → 0 < suffix_len is_blank bytes → is_blank (get_or bytes (length bytes - suffix_len is_blank bytes) 0) ≡ true
blank-behind bytes some =
    let count : ℕ = suffix_len is_blank bytes in
    let within = suffix_len-le-length is_blank bytes in
    let at : length bytes - 1 - (count - 1) ≡ length bytes - count = omega arith in
    let passes = prefix_len_passes is_blank (reverse bytes) (count - 1) 0 (omega arith) in
    let read = get_or-reverse bytes (count - 1) 0 (omega arith) in
    ap (λ (k : ℕ). is_blank (get_or bytes k 0)) (sym at) ∙ ap is_blank (sym read) ∙ passes

boundary-indent : (line more : List ℕ) → IsUtf8 (line ++ more) → IsCharBoundary (line ++ more) (indent line)
boundary-indent line more utf8 = at_count (indent line) refl where
  at_count : (n : ℕ) → n ≡ indent line → IsCharBoundary (line ++ more) n
  at_count zero e = IsCharBoundary-start (line ++ more) utf8
  at_count (suc n) e =
      let P : ℕ → Type 0 = λ k. IsCharBoundary (line ++ more) k in
      let within : n < length line = omega (arith, prefix_len-le-length is_space line) in
      let low : get_or line n 0 ≡ 32 = eqb-true (get_or line n 0) 32 (prefix_len_passes is_space line n 0 (omega arith)) in
      let same = get_or_append_left line more 0 n within in
      let longer = length-append line more in
      subst P (add-one n) (IsCharBoundary-after_ascii (line ++ more) n utf8 (omega arith) (omega arith))

-- how many bytes of a line its content ends behind
abbrev content_end : List ℕ → ℕ
content_end line = indent line + length (content line)

-- what stands behind its leading spaces, without its end
abbrev behind : List ℕ → List ℕ
behind line = drop (indent line) (without_end line)

length-content : (line : List ℕ) → length (content line) ≡ length (behind line) - suffix_len is_blank (behind line)
length-content line =
    let rest : List ℕ = behind line in
    omega (arith, length-take (length rest - suffix_len is_blank rest) rest)

content_end-le : (line : List ℕ) → content_end line ≤ length line
content_end-le line =
    omega (arith, length-content line, length-drop (indent line) (without_end line), length-without_end line, prefix_len-le-length is_space line)

boundary-content_end : (line more : List ℕ) → IsUtf8 (line ++ more) → (more ≡ []) ⊎ EndsInFeed line → IsCharBoundary (line ++ more) (content_end line)
boundary-content_end line more utf8 ends =
    let text : List ℕ = without_end line in
    let rest : List ℕ = behind line in
    let blanks : ℕ = suffix_len is_blank rest in
    let size = length-content line in
    let behind_is = length-drop (indent line) text in
    let text_le = length-without_end line in
    let longer = length-append line more in
    let end_le = content_end-le line in
    let P : ℕ → Type 0 = λ n. IsCharBoundary (line ++ more) n in
    elim (cases_lt (indent line) (length text)) [
      | inl inside ↦ elim (cases_lt 0 blanks) [
        | inl some ↦
            (let at : ℕ = length rest - blanks in
            let before : content_end line < length text = omega (arith, suffix_len-le-length is_blank rest) in
            let blank = below-blank (get_or rest at 0) (blank-behind rest some) in
            let first = get_or-drop (indent line) text at 0 in
            let second = get_or-without_end line (content_end line) before in
            let third = get_or_append_left line more 0 (content_end line) (omega arith) in
            let place : indent line + at ≡ content_end line = omega arith in
            let same : get_or text (indent line + at) 0 ≡ get_or text (content_end line) 0 = ap (λ (k : ℕ). get_or text k 0) place in
            IsCharBoundary-before (line ++ more) (content_end line) (omega arith) (λ h. omega arith))
        | inr none ↦
            (let at_end : length text ≡ content_end line = omega arith in
            subst P at_end (IsCharBoundary-before (line ++ more) (length text) (omega arith) (low-end line more ends)))
      ]
      | inr past ↦
          (let at_indent : indent line ≡ content_end line = omega arith in
          subst P at_indent (boundary-indent line more utf8))
    ]

-- ---- all lines

feed-last : (line : List ℕ) → EndsInFeed line → (n : ℕ) × (n + 1 ≡ length line) × (get_or line n 0 ≡ 10)
feed-last [] f = absurd f
feed-last (byte ∷ []) f = (0, omega arith, f)
feed-last (byte ∷ next ∷ bytes) f = (let last = feed-last (next ∷ bytes) f in (suc last.0, omega arith, last.2))

boundary-line : (line more : List ℕ) → IsUtf8 (line ++ more) → (more ≡ []) ⊎ EndsInFeed line → IsCharBoundary (line ++ more) (length line)
boundary-line line more utf8 ends =
    let P : ℕ → Type 0 = λ n. IsCharBoundary (line ++ more) n in
    let longer = length-append line more in
    elim ends [
      | inl none ↦
          (let all : length (line ++ more) ≡ length line = omega (arith, ap length none) in
          subst P all (IsCharBoundary-end (line ++ more)))
      | inr feed ↦
          (let last = feed-last line feed in
          let same = get_or_append_left line more 0 last.0 (omega arith) in
          subst P last.1 (IsCharBoundary-after_ascii (line ++ more) last.0 utf8 (omega arith) (omega arith)))
    ]

-- a place behind a place of the text
boundary-from : (text part : List ℕ) (at n : ℕ) → at ≤ length text → drop at text ≡ part → IsCharBoundary part n → IsCharBoundary text (at + n)
boundary-from text part at n within is boundary =
    let P : List ℕ → Type 0 = λ (bytes : List ℕ). IsCharBoundary bytes n in
    IsCharBoundary-from_rest text at n within (subst P (sym is) boundary)

IsUtf8-part : (text part : List ℕ) (at : ℕ) → IsUtf8 text → IsCharBoundary text at → drop at text ≡ part → IsUtf8 part
IsUtf8-part text part at utf8 starts is =
    let P : List ℕ → Type 0 = λ (bytes : List ℕ). IsUtf8 bytes in
    subst P is (IsUtf8-drop text at utf8 starts)

IsSpan-line : (text : List ℕ) (number at : ℕ) (line more : List ℕ) → IsUtf8 text → length text ≤ 16777216 → IsCharBoundary text at → drop at text ≡ line ++ more → (more ≡ []) ⊎ EndsInFeed line → IsSpan text (line_at number at line)
IsSpan-line text number at line more utf8 short starts is ends =
    let part = IsUtf8-part text (line ++ more) at utf8 starts is in
    let room : length text - at ≡ length line + length more = sym (length-drop at text) ∙ ap length is ∙ length-append line more in
    let end_le = content_end-le line in
    let P : ℕ → Type 0 = λ n. IsCharBoundary text n in
    let place : at + content_end line ≡ at + indent line + length (content line) = omega arith in
    record {
      in_order = omega arith;
      in_text = omega (arith, starts.0);
      columns = omega (arith, starts.0);
      starts = boundary-from text (line ++ more) at (indent line) starts.0 is (boundary-indent line more part);
      ends = subst P place (boundary-from text (line ++ more) at (content_end line) starts.0 is (boundary-content_end line more part ends));
    }

spans-from : (text : List ℕ) (number at : ℕ) (lines : List (List ℕ)) → IsUtf8 text → length text ≤ 16777216 → IsCharBoundary text at → drop at text ≡ joined lines → AreLines lines → All (IsSpan text) (lines_from number at lines)
unfolding lines_from
spans-from text number at [] utf8 short starts is ends = All-nil (IsSpan text)
spans-from text number at (line ∷ lines) utf8 short starts is (ends, others) =
    let more : List ℕ = joined lines in
    let part = IsUtf8-part text (line ++ more) at utf8 starts is in
    let next = boundary-from text (line ++ more) at (length line) starts.0 is (boundary-line line more part ends) in
    let left : drop (at + length line) text ≡ more = sym (drop-drop (length line) at text) ∙ ap (drop (length line)) is ∙ drop_at line more (length line) refl in
    All-cons (IsSpan text) (line_at number at line) (lines_from (number + 1) (at + length line) lines)
    (IsSpan-line text number at line more utf8 short starts is ends)
    (spans-from text (number + 1) (at + length line) lines utf8 short next left others)

bytes-mark : encode 0xFEFF ≡ 239 ∷ 187 ∷ 191 ∷ []
unfolding encode
bytes-mark = refl

boundary-behind_mark : (bytes : List ℕ) → IsUtf8 (239 ∷ 187 ∷ 191 ∷ bytes) → IsCharBoundary (239 ∷ 187 ∷ 191 ∷ bytes) 3
boundary-behind_mark bytes utf8 =
    IsCharBoundary-past_char (239 ∷ 187 ∷ 191 ∷ bytes) bytes 0 0xFEFF (omega arith) utf8 (ap (λ (mark : List ℕ). mark ++ bytes) (sym bytes-mark))

boundary-mark : (text : List ℕ) → IsUtf8 text → IsCharBoundary text (mark_length text)
boundary-mark [] utf8 = IsCharBoundary-start [] utf8
boundary-mark (a ∷ []) utf8 = IsCharBoundary-start (a ∷ []) utf8
boundary-mark (a ∷ b ∷ []) utf8 = IsCharBoundary-start (a ∷ b ∷ []) utf8
boundary-mark (a ∷ b ∷ c ∷ bytes) utf8 =
    let text : List ℕ = a ∷ b ∷ c ∷ bytes in
    cond_both (eqb a 239 && eqb b 187 && eqb c 191) 3 0 (λ (n : ℕ). IsCharBoundary text n)
    (λ e.
    let both = and_parts (eqb a 239 && eqb b 187) (eqb c 191) e in
    let first = and_parts (eqb a 239) (eqb b 187) both.0 in
    let is : 239 ∷ 187 ∷ 191 ∷ bytes ≡ text = cc (eqb-true a 239 first.0, eqb-true b 187 first.1, eqb-true c 191 both.1) in
    let P : List ℕ → Type 0 = λ (bs : List ℕ). IsUtf8 bs → IsCharBoundary bs 3 in
    subst P is (boundary-behind_mark bytes) utf8)
    (λ e. IsCharBoundary-start text utf8)

pub spans-lines : (text : List ℕ) → IsUtf8 text → length text ≤ 16777216 → All (IsSpan text) (lines_of text)
spans-lines text utf8 short =
    let mark : ℕ = mark_length text in
    spans-from text 1 mark (cut (drop mark text)) utf8 short (boundary-mark text utf8) (sym (joined-cut (drop mark text))) (AreLines-cut (drop mark text))
