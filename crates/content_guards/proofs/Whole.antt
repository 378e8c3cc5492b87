-- Bytes that are UTF-8: where they may be cut, and that without control characters they are a line.
use Rattle.std.proofs.Common.{◌≡◌, ℕ, zero, suc, ◌+◌, ◌/◌, ◌<◌, ◌≤◌, Bool, true, false, nat_lt, List, [], ◌∷◌, ◌++◌, length, take, drop, get_or, replicate, refl, sym, ap, ◌∙◌, subst, inl, inr, arith, append_assoc, length-append, IsUtf8}
use Rattle.std.specs.Char.{is_control}
use Rattle.std.specs.List.{list_any, prefix_len}
use Rattle.std.specs.Str.{IsAscii, chars, is_utf8}
use Rattle.std.proofs.lemmas.Bool.{and_from, or_parts, cases_Bool, cases_lt, cond-true, cond-false, lt-ltb, le-ltb}
use Rattle.std.proofs.lemmas.List.{append-nil}
use Rattle.std.proofs.lemmas.Str.{IsCharBoundary-after_ascii, IsCharBoundary-before_ascii, IsUtf8-append, IsUtf8-drop, IsUtf8-from_ascii, IsUtf8-from_is_utf8, IsUtf8-nil, IsUtf8-take, chars-encodes, encode_ascii, is_utf8-from_IsUtf8}
use lib.Utf8.{encode, encodes, next}
use Rattle.cert_text.specs.ReadBack.{is_line}
use Rattle.content_guards.proofs.StepTexts.{is_inside, inside}

-- whether bytes are UTF-8 behind others, which may end within a character
abbrev pub whole : (before bytes : List ℕ) → Bool
whole before bytes = is_utf8 (before ++ bytes)

pub utf8_whole : (text : List ℕ) → IsUtf8 text → whole [] text ≡ true
utf8_whole text utf8 = is_utf8-from_IsUtf8 text utf8

pub whole_utf8 : (text : List ℕ) → whole [] text ≡ true → IsUtf8 text
whole_utf8 text h = IsUtf8-from_is_utf8 text h

-- ---- one byte

-- Behind a byte there are more that others stand behind. Other bytes may stand there that are UTF-8 behind these.
pub record Step (n : List ℕ) (byte : ℕ) (bytes : List ℕ) : Type 0 where
  pub left : List ℕ
  pub rest : whole left bytes ≡ true
  pub again : (others : List ℕ) → whole left others ≡ true → whole n (byte ∷ others) ≡ true

pub step : (n : List ℕ) (byte : ℕ) (bytes : List ℕ) → whole n (byte ∷ bytes) ≡ true → Step n byte bytes
step n byte bytes h = record {
  left = n ++ byte ∷ [];
  rest = subst (λ (l : List ℕ). is_utf8 l ≡ true) (sym (append_assoc n (byte ∷ []) bytes)) h;
  again = λ others k. subst (λ (l : List ℕ). is_utf8 l ≡ true) (append_assoc n (byte ∷ []) others) k;
}

place_of : (n : List ℕ) (byte : ℕ) (bytes : List ℕ) → get_or (n ++ byte ∷ bytes) (length n) 0 ≡ byte
place_of [] byte bytes = refl
place_of (x ∷ n) byte bytes = place_of n byte bytes

front_of : (n bytes : List ℕ) → take (length n) (n ++ bytes) ≡ n
front_of [] bytes = refl
front_of (x ∷ n) bytes = ap (λ (l : List ℕ). x ∷ l) (front_of n bytes)

behind_of : (n bytes : List ℕ) → drop (length n) (n ++ bytes) ≡ bytes
behind_of [] bytes = refl
behind_of (x ∷ n) bytes = behind_of n bytes

-- a byte of ASCII is a character: what stands before it is UTF-8, and so is what stands behind it, and from it on
pub low_step : (n : List ℕ) (byte : ℕ) (bytes : List ℕ) → byte < 128 → whole n (byte ∷ bytes) ≡ true → (whole n [] ≡ true) × (whole [] bytes ≡ true) × (whole [] (byte ∷ bytes) ≡ true)
low_step n byte bytes low h =
    let all : List ℕ = n ++ byte ∷ bytes in
    let utf8 : IsUtf8 all = whole_utf8 all h in
    let at : get_or all (length n) 0 ≡ byte = place_of n byte bytes in
    let less : length n < length all = omega (arith, length-append n (byte ∷ bytes)) in
    let cut = IsCharBoundary-before_ascii all (length n) less (omega (arith, at, low)) in
    let front : IsUtf8 n = subst IsUtf8 (front_of n (byte ∷ bytes)) (IsUtf8-take all (length n) utf8 cut) in
    let here : IsUtf8 (byte ∷ bytes) = subst IsUtf8 (behind_of n (byte ∷ bytes)) (IsUtf8-drop all (length n) utf8 cut) in
    let behind : IsUtf8 bytes = IsUtf8-drop (byte ∷ bytes) 1 here (IsCharBoundary-after_ascii (byte ∷ bytes) 0 here (omega arith) low) in
    (subst (λ (l : List ℕ). is_utf8 l ≡ true) (sym (append-nil n)) (utf8_whole n front), utf8_whole bytes behind, utf8_whole (byte ∷ bytes) here)

pub no_bytes : whole [] [] ≡ true
no_bytes = utf8_whole [] IsUtf8-nil

ascii_one : (byte : ℕ) → byte < 128 → IsAscii (byte ∷ [])
ascii_one byte low zero = low
ascii_one byte low (suc i) = omega arith

-- ---- lists

pub joined : (n xs ys : List ℕ) → whole n xs ≡ true → whole [] ys ≡ true → whole n (xs ++ ys) ≡ true
joined n xs ys a b =
    subst (λ (l : List ℕ). is_utf8 l ≡ true) (append_assoc n xs ys)
    (utf8_whole ((n ++ xs) ++ ys) (IsUtf8-append (n ++ xs) ys (whole_utf8 (n ++ xs) a) (whole_utf8 ys b)))

pub one_low : (byte : ℕ) → byte < 128 → whole [] (byte ∷ []) ≡ true
one_low byte low = utf8_whole (byte ∷ []) (IsUtf8-from_ascii (byte ∷ []) (ascii_one byte low))

pub low_more : (byte : ℕ) (bytes : List ℕ) → byte < 128 → whole [] bytes ≡ true → whole [] (byte ∷ bytes) ≡ true
low_more byte bytes low h = joined [] (byte ∷ []) bytes (one_low byte low) h

pub copies : (n byte : ℕ) → byte < 128 → whole [] (replicate n byte) ≡ true
copies zero byte low = no_bytes
copies (suc n) byte low = low_more byte (replicate n byte) low (copies n byte low)

-- they may be cut before a byte of ASCII
pub cut_before : (n : List ℕ) (k : ℕ) (bytes : List ℕ) → k < length bytes → get_or bytes k 0 < 128 → whole n bytes ≡ true → (whole n (take k bytes) ≡ true) × (whole [] (drop k bytes) ≡ true)
cut_before n k [] less low h = absurd (omega arith)
cut_before n zero (byte ∷ bytes) less low h = let cut = low_step n byte bytes low h in (cut.0, cut.2)
cut_before n (suc k) (byte ∷ bytes) less low h =
    let s = step n byte bytes h in
    let rest = cut_before s.left k bytes (omega arith) low s.rest in
    (s.again (take k bytes) rest.0, rest.1)

-- they may be cut behind the first ones that pass a test which only bytes of ASCII pass
pub behind_low : (p : ℕ → Bool) → ((byte : ℕ) → p byte ≡ true → byte < 128) → (bytes : List ℕ) → whole [] bytes ≡ true → whole [] (drop (prefix_len p bytes) bytes) ≡ true
behind_low p low [] h = no_bytes
behind_low p low (byte ∷ bytes) h = elim (cases_Bool (p byte)) [
  | inl is ↦
      let past = behind_low p low bytes (low_step [] byte bytes (low byte is) h).1 in
      let count : prefix_len p (byte ∷ bytes) ≡ suc (prefix_len p bytes) = cond-true (p byte) (1 + prefix_len p bytes) 0 is ∙ (let e : 1 + prefix_len p bytes ≡ suc (prefix_len p bytes) = omega arith in e) in
      subst (λ (k : ℕ). whole [] (drop k (byte ∷ bytes)) ≡ true) (sym count) past
  | inr isnt ↦
      let count : prefix_len p (byte ∷ bytes) ≡ 0 = cond-false (p byte) (1 + prefix_len p bytes) 0 isnt in
      subst (λ (k : ℕ). whole [] (drop k (byte ∷ bytes)) ≡ true) (sym count) h
]

-- ---- characters and lines

next_high : (bits : ℕ) → 128 ≤ next bits
next_high bits = omega arith

two_bytes : (c : ℕ) → 128 ≤ c → c < 2048 → encode c ≡ (192 + c / 64) ∷ next c ∷ []
unfolding encode
two_bytes c low high = cond-false (nat_lt c 128) _ _ (le-ltb c 128 low) ∙ cond-true (nat_lt c 2048) _ _ (lt-ltb c 2048 high)

three_bytes : (c : ℕ) → 2048 ≤ c → c < 65536 → encode c ≡ (224 + c / 4096) ∷ next (c / 64) ∷ next c ∷ []
unfolding encode
three_bytes c low high =
    cond-false (nat_lt c 128) _ _ (le-ltb c 128 (omega (arith, low))) ∙ cond-false (nat_lt c 2048) _ _ (le-ltb c 2048 low) ∙ cond-true (nat_lt c 65536) _ _ (lt-ltb c 65536 high)

four_bytes : (c : ℕ) → 65536 ≤ c → encode c ≡ (240 + c / 262144) ∷ next (c / 4096) ∷ next (c / 64) ∷ next c ∷ []
unfolding encode
four_bytes c low =
    cond-false (nat_lt c 128) _ _ (le-ltb c 128 (omega (arith, low))) ∙ cond-false (nat_lt c 2048) _ _ (le-ltb c 2048 (omega (arith, low))) ∙ cond-false (nat_lt c 65536) _ _ (le-ltb c 65536 low)

high_inside : (byte : ℕ) → 128 ≤ byte → is_inside byte ≡ true
high_inside byte high = inside byte (λ low. absurd (omega (arith, high, low)))

more_inside : (byte : ℕ) (bytes : List ℕ) → 128 ≤ byte → is_line bytes ≡ true → is_line (byte ∷ bytes) ≡ true
more_inside byte bytes high h = and_from (is_inside byte) (is_line bytes) (high_inside byte high) h

-- a character that is no control character
character : (c : ℕ) (rest : List ℕ) → is_control c ≡ false → is_line rest ≡ true → is_line (encode c ++ rest) ≡ true
character c rest plain h = elim (cases_lt c 128) [
  | inl one ↦ subst (λ (l : List ℕ). is_line (l ++ rest) ≡ true) (sym (encode_ascii c one)) (and_from (is_inside c) (is_line rest) (inside c (λ low. plain)) h)
  | inr more ↦ elim (cases_lt c 2048) [
    | inl two ↦
        subst (λ (l : List ℕ). is_line (l ++ rest) ≡ true) (sym (two_bytes c more two))
        (more_inside (192 + c / 64) (next c ∷ rest) (omega arith) (more_inside (next c) rest (next_high c) h))
    | inr three_or_four ↦ elim (cases_lt c 65536) [
      | inl three ↦
          subst (λ (l : List ℕ). is_line (l ++ rest) ≡ true) (sym (three_bytes c three_or_four three))
          (more_inside (224 + c / 4096) (next (c / 64) ∷ next c ∷ rest) (omega arith) (more_inside (next (c / 64)) (next c ∷ rest) (next_high (c / 64)) (more_inside (next c) rest (next_high c) h)))
      | inr four ↦
          subst (λ (l : List ℕ). is_line (l ++ rest) ≡ true) (sym (four_bytes c four))
          (more_inside (240 + c / 262144) (next (c / 4096) ∷ next (c / 64) ∷ next c ∷ rest) (omega arith)
          (more_inside (next (c / 4096)) (next (c / 64) ∷ next c ∷ rest) (next_high (c / 4096)) (more_inside (next (c / 64)) (next c ∷ rest) (next_high (c / 64)) (more_inside (next c) rest (next_high c) h))))
    ]
  ]
]

characters : (cs : List ℕ) → list_any is_control cs ≡ false → is_line (encodes cs) ≡ true
characters [] plain = refl
characters (c ∷ cs) plain =
    let parts = or_parts (is_control c) (list_any is_control cs) plain in
    character c (encodes cs) parts.0 (characters cs parts.1)

-- UTF-8 without control characters is a line
pub utf8_line : (text : List ℕ) → IsUtf8 text → list_any is_control (chars text) ≡ false → is_line text ≡ true
utf8_line text utf8 plain =
    let cs : chars text ≡ utf8.0 = sym (ap chars utf8.1.1) ∙ chars-encodes utf8.0 utf8.1.0 in
    subst (λ (l : List ℕ). is_line l ≡ true) utf8.1.1 (characters utf8.0 (subst (λ (l : List ℕ). list_any is_control l ≡ false) cs plain))
