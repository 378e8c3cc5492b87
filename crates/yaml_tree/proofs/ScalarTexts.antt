-- What stands between quotes, and what it stands for.
use Rattle.std.proofs.Common.{◌≡◌, ℕ, suc, ◌+◌, ◌<◌, ◌≢◌, List, [], ◌∷◌, ◌++◌, length, get_or, drop, Option, None, Some, Result, Ok, Err, inl, inr, refl, sym, ap, ◌∙◌, subst, add-zero, arith}
use Rattle.std.proofs.lemmas.Bool.{ne_eqb, cases_eq}
use Rattle.std.proofs.lemmas.List.{append-nil, append_assoc, length-append, append_cancel_left, get_or_at, drop_at}
use Rattle.std.specs.List.{slice_get}
use Rattle.std.specs.Option.{option_and_then}
use Rattle.std.specs.Str.{IsUtf8}
use Rattle.std.proofs.lemmas.Bool.Decides.{nat_tests}
use Rattle.std.proofs.lemmas.Option.{same_Some}
use Rattle.std.proofs.lemmas.Str.{IsUtf8-drop, IsCharBoundary-after_ascii}
use Rattle.yaml_tree.specs.Scalars.{longer, single_quoted, single_text, escaped, first_byte, escape_at, double_text}
use Rattle.yaml_tree.proofs.ScalarQuotes.{single_other, single_pair, single_closes, single_open}

-- ---- bytes without a certain one

abbrev pub Without : ℕ → List ℕ → Type 0
Without byte bytes = (i : ℕ) → i < length bytes → get_or bytes i 0 ≢ byte

without-first : (byte first : ℕ) (bytes : List ℕ) → Without byte (first ∷ bytes) → first ≢ byte
without-first byte first bytes none = none 0 (omega arith)

without-others : (byte first : ℕ) (bytes : List ℕ) → Without byte (first ∷ bytes) → Without byte bytes
without-others byte first bytes none = λ i lt. none (suc i) (omega arith)

-- ---- what closes

longer-none : (inner : Option (List ℕ)) → longer [] inner ≡ inner
longer-none None = refl
longer-none (Some inner) = refl

longer-longer : (a b : List ℕ) (inner : Option (List ℕ)) → longer a (longer b inner) ≡ longer (a ++ b) inner
longer-longer a b None = refl
longer-longer a b (Some inner) = ap (λ (l : List ℕ). Some l) (sym (append_assoc a b inner))

-- some bytes in front, and what closes behind them
pub longer-some : (front : List ℕ) (o : Option (List ℕ)) (inner : List ℕ) → longer front o ≡ Some inner → (left : List ℕ) × (o ≡ Some left) × (front ++ left ≡ inner)
longer-some front None inner is = absurd cc
longer-some front (Some left) inner is = (left, refl, cc)

single_front : (part bytes : List ℕ) → Without 39 part → single_quoted (part ++ bytes) ≡ longer part (single_quoted bytes)
single_front [] bytes none = sym (longer-none (single_quoted bytes))
single_front (first ∷ part) bytes none =
    single_other first (part ++ bytes) (without-first 39 first part none) ∙ ap (longer (first ∷ [])) (single_front part bytes (without-others 39 first part none)) ∙ longer-longer (first ∷ []) part (single_quoted bytes)

-- these bytes stand between single quotes
abbrev pub IsSingle : List ℕ → Type 0
IsSingle inner = single_quoted (inner ++ 39 ∷ []) ≡ Some inner

-- behind the first quote inside stands another
record Pair (behind : List ℕ) : Type 0 where
  second : behind ≡ 39 ∷ drop 1 behind
  left : IsSingle (drop 1 behind)

pair_in : (part behind : List ℕ) → longer part (single_quoted (39 ∷ (behind ++ 39 ∷ []))) ≡ Some (part ++ (39 ∷ behind)) → Pair behind
pair_in part [] is =
    let none : None ≡ Some (part ++ (39 ∷ [])) = sym (ap (longer part) (single_pair [] ∙ ap (longer (39 ∷ (39 ∷ []))) single_open)) ∙ is in
    absurd cc
pair_in part (next ∷ behind) is = elim (cases_eq next 39) [
  | inl same ↦
      let two : List ℕ = 39 ∷ (39 ∷ []) in
      let left : Option (List ℕ) = single_quoted (behind ++ 39 ∷ []) in
      let pair : single_quoted (39 ∷ (next ∷ (behind ++ 39 ∷ []))) ≡ longer two left = ap (λ (n : ℕ). single_quoted (39 ∷ (n ∷ (behind ++ 39 ∷ [])))) same ∙ single_pair (behind ++ 39 ∷ []) in
      let some = longer-some (part ++ two) left (part ++ (39 ∷ (next ∷ behind))) (sym (longer-longer part two left) ∙ sym (ap (longer part) pair) ∙ is) in
      let rest = append_cancel_left part (two ++ some.0) (39 ∷ (next ∷ behind)) (sym (append_assoc part two some.0) ∙ some.2) in
      record { second = ap (λ (n : ℕ). n ∷ behind) same; left = some.1 ∙ ap (λ (l : List ℕ). Some l) (ap (drop 2) rest) }
  | inr other ↦
      let closes : single_quoted (39 ∷ (next ∷ (behind ++ 39 ∷ []))) ≡ Some [] = single_closes (next ∷ (behind ++ 39 ∷ [])) (ne_eqb next 39 other) in
      let none = append_cancel_left part [] (39 ∷ (next ∷ behind)) (same_Some (part ++ []) (part ++ (39 ∷ (next ∷ behind))) (sym (ap (longer part) closes) ∙ is)) in
      absurd cc
]

pub single_pair_in : (part behind inner : List ℕ) → IsSingle inner → inner ≡ part ++ (39 ∷ behind) → Without 39 part → (behind ≡ 39 ∷ drop 1 behind) × IsSingle (drop 1 behind)
single_pair_in part behind inner closes split none =
    let pair = pair_in part behind (sym (single_front part (39 ∷ (behind ++ 39 ∷ [])) none) ∙ ap single_quoted (sym (append_assoc part (39 ∷ behind) (39 ∷ []))) ∙ ap (λ (l : List ℕ). single_quoted (l ++ 39 ∷ [])) (sym split) ∙ closes ∙ ap (λ (l : List ℕ). Some l) split) in
    (pair.second, pair.left)

-- ---- the text of single quotes

text_other : (byte : ℕ) (bytes : List ℕ) → byte ≢ 39 → single_text (byte ∷ bytes) ≡ byte ∷ single_text bytes
unfolding single_text
text_other byte [] other = refl
text_other byte (next ∷ bytes) other = rw (ne_eqb byte 39 other) refl

text_pair : (bytes : List ℕ) → single_text (39 ∷ (39 ∷ bytes)) ≡ 39 ∷ single_text bytes
unfolding single_text
text_pair bytes = refl

text_none : single_text [] ≡ []
unfolding single_text
text_none = refl

text_front : (part bytes : List ℕ) → Without 39 part → single_text (part ++ bytes) ≡ part ++ single_text bytes
text_front [] bytes none = refl
text_front (first ∷ part) bytes none = text_other first (part ++ bytes) (without-first 39 first part none) ∙ ap (λ (l : List ℕ). first ∷ l) (text_front part bytes (without-others 39 first part none))

-- one more quote was read
pub single_more : (text part behind left : List ℕ) → left ≡ part ++ (39 ∷ behind) → Without 39 part → behind ≡ 39 ∷ drop 1 behind → text ++ single_text left ≡ (text ++ part) ++ (39 ∷ []) ++ single_text (drop 1 behind)
single_more text part behind left split none second =
    let more : List ℕ = drop 1 behind in
    ap (λ (l : List ℕ). text ++ single_text l) (split ∙ ap (λ (l : List ℕ). part ++ (39 ∷ l)) second)
    ∙ ap (λ (l : List ℕ). text ++ l) (text_front part (39 ∷ (39 ∷ more)) none ∙ ap (λ (l : List ℕ). part ++ l) (text_pair more))
    ∙ simp append_assoc

pub single_last : (text left : List ℕ) → Without 39 left → text ++ single_text left ≡ text ++ left
single_last text left none = ap (λ (l : List ℕ). text ++ l) (ap single_text (sym (append-nil left)) ∙ text_front left [] none ∙ ap (λ (l : List ℕ). left ++ l) text_none ∙ append-nil left)

-- ---- the text of double quotes

abbrev pub with_front : List ℕ → Result (List ℕ) ℕ → Result (List ℕ) ℕ
with_front front (Ok text) = Ok (front ++ text)
with_front front (Err at) = Err at

with_front-none : (read : Result (List ℕ) ℕ) → with_front [] read ≡ read
with_front-none (Ok text) = refl
with_front-none (Err at) = refl

with_front-with_front : (a b : List ℕ) (read : Result (List ℕ) ℕ) → with_front a (with_front b read) ≡ with_front (a ++ b) read
with_front-with_front a b (Ok text) = ap (λ (l : List ℕ). Ok l) (sym (append_assoc a b text))
with_front-with_front a b (Err at) = refl

pub first_byte-front : (byte : ℕ) (read : Result (List ℕ) ℕ) → first_byte byte read ≡ with_front (byte ∷ []) read
first_byte-front byte (Ok text) = refl
first_byte-front byte (Err at) = refl

pub doubled_other : (at byte : ℕ) (bytes : List ℕ) → byte ≢ 92 → double_text at (byte ∷ bytes) ≡ with_front (byte ∷ []) (double_text (at + 1) bytes)
unfolding double_text
doubled_other at byte [] other = rw (ne_eqb byte 92 other) refl
doubled_other at byte (next ∷ bytes) other = rw (ne_eqb byte 92 other) (first_byte-front byte (double_text (at + 1) (next ∷ bytes)))

pub doubled_escape : (at next : ℕ) (bytes : List ℕ) → double_text at (92 ∷ (next ∷ bytes)) ≡ escape_at at (escaped next) (double_text (at + 2) bytes)
unfolding double_text
doubled_escape at next bytes = refl

pub doubled_cut : (at : ℕ) → double_text at (92 ∷ []) ≡ Err at
unfolding double_text
doubled_cut at = refl

pub doubled_none : (at : ℕ) → double_text at [] ≡ Ok []
unfolding double_text
doubled_none at = refl

doubled_front : (at : ℕ) (part bytes : List ℕ) → Without 92 part → double_text at (part ++ bytes) ≡ with_front part (double_text (at + length part) bytes)
doubled_front at [] bytes none = ap (λ (n : ℕ). double_text n bytes) (sym (add-zero at)) ∙ sym (with_front-none (double_text (at + 0) bytes))
doubled_front at (first ∷ part) bytes none =
    let e : at + 1 + length part ≡ at + suc (length part) = omega arith in
    doubled_other at first (part ++ bytes) (without-first 92 first part none) ∙ ap (with_front (first ∷ [])) (doubled_front (at + 1) part bytes (without-others 92 first part none))
    ∙ with_front-with_front (first ∷ []) part (double_text (at + 1 + length part) bytes) ∙ ap (λ (n : ℕ). with_front (first ∷ part) (double_text n bytes)) e

-- the character that an escape stands for, and the byte behind its backslash, are ASCII
escaped-below : (byte character : ℕ) → escaped byte ≡ Some character → (byte < 128) × (character < 128)
escaped-below byte character is = (grind (arith, nat_tests), grind (arith, nat_tests))

pub first_escaped : (behind : List ℕ) (character : ℕ) → option_and_then escaped (slice_get behind 0) ≡ Some character → (0 < length behind) × (get_or behind 0 0 < 128) × (character < 128)
first_escaped [] character is = absurd cc
first_escaped (next ∷ behind) character is = let below = escaped-below next character is in (omega arith, below.0, below.1)

doubled_behind : (at : ℕ) (behind : List ℕ) (character : ℕ) → option_and_then escaped (slice_get behind 0) ≡ Some character → double_text at (92 ∷ behind) ≡ with_front (character ∷ []) (double_text (at + 2) (drop 1 behind))
doubled_behind at [] character is = absurd cc
doubled_behind at (next ∷ behind) character is =
    doubled_escape at next behind ∙ ap (λ (o : Option ℕ). escape_at at o (double_text (at + 2) behind)) is ∙ first_byte-front character (double_text (at + 2) behind)

doubled_no_escape : (at : ℕ) (behind : List ℕ) → option_and_then escaped (slice_get behind 0) ≡ None → double_text at (92 ∷ behind) ≡ Err at
doubled_no_escape at [] none = doubled_cut at
doubled_no_escape at (next ∷ behind) none = doubled_escape at next behind ∙ ap (λ (o : Option ℕ). escape_at at o (double_text (at + 2) behind)) none

-- one more escape was read
pub doubled_more : (at : ℕ) (text part behind left : List ℕ) (character : ℕ) → left ≡ part ++ (92 ∷ behind) → Without 92 part → option_and_then escaped (slice_get behind 0) ≡ Some character
    → with_front text (double_text at left) ≡ with_front (text ++ part ++ character ∷ []) (double_text (at + length part + 2) (drop 1 behind))
doubled_more at text part behind left character split none is =
    let read : Result (List ℕ) ℕ = double_text (at + length part + 2) (drop 1 behind) in
    ap (λ (l : List ℕ). with_front text (double_text at l)) split
    ∙ ap (with_front text) (doubled_front at part (92 ∷ behind) none ∙ ap (with_front part) (doubled_behind (at + length part) behind character is))
    ∙ with_front-with_front text part (with_front (character ∷ []) read) ∙ with_front-with_front (text ++ part) (character ∷ []) read

pub doubled_bad : (at : ℕ) (text part behind left : List ℕ) → left ≡ part ++ (92 ∷ behind) → Without 92 part → option_and_then escaped (slice_get behind 0) ≡ None → with_front text (double_text at left) ≡ Err (at + length part)
doubled_bad at text part behind left split none is =
    ap (λ (l : List ℕ). with_front text (double_text at l)) split
    ∙ ap (with_front text) (doubled_front at part (92 ∷ behind) none ∙ ap (with_front part) (doubled_no_escape (at + length part) behind is))

pub doubled_last : (at : ℕ) (text left : List ℕ) → Without 92 left → with_front text (double_text at left) ≡ Ok (text ++ left)
doubled_last at text left none =
    ap (λ (l : List ℕ). with_front text (double_text at l)) (sym (append-nil left))
    ∙ ap (with_front text) (doubled_front at left [] none ∙ ap (with_front left) (doubled_none (at + length left)) ∙ ap (λ (l : List ℕ). Ok l) (append-nil left))

-- ---- cuts

-- what stands behind a character of ASCII is text
pub IsUtf8-behind : (byte : ℕ) (text part behind : List ℕ) → byte < 128 → IsUtf8 text → text ≡ part ++ (byte ∷ behind) → IsUtf8 behind
IsUtf8-behind byte text part behind low utf8 split =
    let n : ℕ = length part in
    let there : get_or text n 0 ≡ byte = ap (λ (l : List ℕ). get_or l n 0) split ∙ get_or_at part byte behind 0 n refl in
    let within : n < length text = omega (arith, ap length split, length-append part (byte ∷ behind)) in
    let cut : drop (n + 1) text ≡ behind = ap (drop (n + 1)) (split ∙ sym (append_assoc part (byte ∷ []) behind)) ∙ drop_at (part ++ byte ∷ []) behind (n + 1) (length-append part (byte ∷ [])) in
    subst IsUtf8 cut (IsUtf8-drop text (n + 1) utf8 (IsCharBoundary-after_ascii text n utf8 within (omega (arith, there, low))))
