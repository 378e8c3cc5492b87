-- Numbers and words of a line are read back.
use Rattle.std.proofs.Common.{◌≡◌, ◌≢◌, ℕ, ◌+◌, ◌-◌, ◌<◌, ◌≤◌, ◌^◌, suc, ◌&&◌, ◌||◌, ◌==◌, codes, decimal, Bool, true, false, not, List, [], ◌∷◌, ◌++◌, length, take, drop, Option, Some, None, refl, sym, ap, ◌∙◌, arith, append_assoc, length-append}
use Rattle.std.specs.Prelude.{if◌then◌else◌, ℤ, pos, negsuc, nat_lt, nat_le, option_map, option_and_then, slice_index, reverse}
use Rattle.std.specs.Fmt.{signed_decimal}
use Rattle.std.specs.List.{list_all, position_or_len}
use Rattle.std.proofs.lemmas.Bool.{and_from, and_parts}
use Rattle.std.proofs.lemmas.Bool.Decides.{nat_tests}
use Rattle.std.proofs.lemmas.Fmt.{decimal_digit, decimal_nonempty, digits_value-decimal, first_decimal}
use Rattle.std.proofs.lemmas.List.{reverse-append, reverse-reverse}
use Rattle.std.proofs.lemmas.List.Folds.{list_all-append}
use Rattle.dp_base.specs.Bytes.{is_digit}
use Rattle.cert_text.specs.Said.{unless_none}
use Rattle.cert_text.specs.Words.{behind, few, is_number, is_plain, is_space, number_behind, number_said, read_on, word}
use Rattle.cert_text.proofs.Fronts.{behind_front}
use Rattle.cert_text.proofs.ReadBack.{own}
use Rattle.text_laws.proofs.Digits.{decimal_digits}
use Rattle.text_laws.specs.Entries.{IsSignedWord, IsWord, before, first_said, last_word, signed_behind, signed_of, signed_said, with_rest}

-- ---- bytes

pub all_weaker : (p q : ℕ → Bool) → ((x : ℕ) → p x ≡ true → q x ≡ true) → (xs : List ℕ) → list_all p xs ≡ true → list_all q xs ≡ true
all_weaker p q f [] h = refl
all_weaker p q f (x ∷ xs) h = let parts = and_parts (p x) (list_all p xs) h in and_from (q x) (list_all q xs) (f x parts.0) (all_weaker p q f xs parts.1)

not_same : (a b : ℕ) → a ≢ b → (a == b) ≡ false
not_same a b h = grind (arith, nat_tests)

most : (a b : ℕ) → nat_le a b ≡ true → a ≤ b
most a b h = grind (arith, nat_tests)

pub digit_range : (c : ℕ) → is_digit c ≡ true → (48 ≤ c) × (c ≤ 57)
digit_range c h = let parts = and_parts (nat_le 48 c) (nat_le c 57) h in (most 48 c parts.0, most c 57 parts.1)

-- no space
abbrev pub is_inner : ℕ → Bool
is_inner byte = not (is_space byte)

digit_inner : (c : ℕ) → is_digit c ≡ true → is_inner c ≡ true
digit_inner c h = let range = digit_range c h in let other : (c == 32) ≡ false = not_same c 32 (omega (arith, range.0)) in ap not other

pub decimal_inner : (n : ℕ) → list_all is_inner (decimal n) ≡ true
decimal_inner n = all_weaker is_digit is_inner digit_inner (decimal n) (decimal_digits n)

signed_fits : (n : ℕ) → n < 2 ^ 63 → (n < 2 ^ 64) × (suc n < 2 ^ 64)
signed_fits n h = (omega arith, omega arith)

signed_inner : (z : ℤ) → list_all is_inner (signed_decimal z) ≡ true
signed_inner (pos n) = decimal_inner n
signed_inner (negsuc n) = decimal_inner (suc n)

-- ---- numbers

less : (a b : ℕ) → nat_lt a b ≡ true → a < b
less a b h = grind (arith, nat_tests)

plain : (n : ℕ) → IsWord n → is_plain (decimal n) ≡ true
plain n h = by (nat_lt n 10) refl
  where
    by : (test : Bool) → test ≡ nat_lt n 10 → is_plain (decimal n) ≡ true
    by true is = let one : decimal n ≡ (48 + n) ∷ [] = decimal_digit n (less n 10 (sym is)) in rw one refl
    by false is =
        let some : 0 < n = grind (arith, nat_tests) in
        let first : 48 < slice_index (decimal n) 0 = first_decimal n some h in
        let other : (slice_index (decimal n) 0 == 48) ≡ false = not_same (slice_index (decimal n) 0) 48 (omega arith) in
        rw other (or_true (length (decimal n) == 1))
      where
        or_true : (x : Bool) → (x || true) ≡ true
        or_true true = refl
        or_true false = refl

pub number_back : (n : ℕ) → IsWord n → number_said (decimal n) ≡ Some n
number_back n small =
    let long : nat_lt 0 (length (decimal n)) ≡ true = (let some : 0 < length (decimal n) = decimal_nonempty n small in grind (arith, nat_tests)) in
    let is : is_number (decimal n) ≡ true = and_from (nat_lt 0 (length (decimal n))) (is_plain (decimal n) && list_all is_digit (decimal n)) long (and_from (is_plain (decimal n)) (list_all is_digit (decimal n)) (plain n small) (decimal_digits n)) in
    let value : read_on 0 (decimal n) ≡ n = digits_value-decimal own n small in
    let fits : few n ≡ n = omega arith in
    rw is (ap (λ k. Some (few k)) value ∙ ap Some fits)

pub number_behind_back : (front : List ℕ) (n : ℕ) → IsWord n → number_behind front (front ++ decimal n) ≡ Some n
number_behind_back front n h = ap (option_and_then number_said) (behind_front front (decimal n)) ∙ number_back n h

no_minus : (ds : List ℕ) → list_all is_digit ds ≡ true → behind (codes "-") ds ≡ None
no_minus [] h = refl
no_minus (d ∷ ds) h =
    let range = digit_range d (and_parts (is_digit d) (list_all is_digit ds) h).0 in
    let other : (d == 45) ≡ false = not_same d 45 (omega (arith, range.0)) in
    ap (λ (test : Bool). if test then Some ds else None) other

pub signed_back : (z : ℤ) → IsSignedWord z → signed_said (signed_decimal z) ≡ Some z
signed_back (pos n) h =
    let small = (signed_fits n h).0 in
    ap (λ o. signed_of o (decimal n)) (no_minus (decimal n) (decimal_digits n)) ∙ ap (option_map (λ (n : ℕ). pos n)) (number_back n small)
signed_back (negsuc n) h =
    let some : (suc n == 0) ≡ false = not_same (suc n) 0 (omega arith) in
    let back : suc n - 1 ≡ n = omega arith in
    ap (λ o. option_map (λ (n : ℕ). negsuc (n - 1)) (option_and_then unless_none o)) (number_back (suc n) (signed_fits n h).1)
    ∙ ap (λ (test : Bool). option_map (λ (n : ℕ). negsuc (n - 1)) (if test then None else Some (suc n))) some
    ∙ ap (λ k. Some (negsuc k)) back

pub signed_behind_back : (front : List ℕ) (z : ℤ) → IsSignedWord z → signed_behind front (front ++ signed_decimal z) ≡ Some z
signed_behind_back front z h = ap (option_and_then signed_said) (behind_front front (signed_decimal z)) ∙ signed_back z h

-- ---- words

space_at : (ds text : List ℕ) → list_all is_inner ds ≡ true → position_or_len is_space (ds ++ 32 ∷ text) ≡ length ds
space_at [] text h = refl
space_at (d ∷ ds) text h =
    let parts = and_parts (is_inner d) (list_all is_inner ds) h in
    let other : (d == 32) ≡ false = by (d == 32) parts.0 in
    let more : position_or_len is_space (ds ++ 32 ∷ text) ≡ length ds = space_at ds text parts.1 in
    rw other (omega (arith, more))
  where
    by : (x : Bool) → not x ≡ true → x ≡ false
    by true is = absurd (cc)
    by false is = refl

take_front : (ds text : List ℕ) → take (length ds) (ds ++ text) ≡ ds
take_front [] text = refl
take_front (d ∷ ds) text = ap (λ xs. d ∷ xs) (take_front ds text)

drop_front : (ds text : List ℕ) (x : ℕ) → drop (length ds + 1) (ds ++ x ∷ text) ≡ text
drop_front [] text x = refl
drop_front (d ∷ ds) text x = ap (λ k. drop k (d ∷ (ds ++ x ∷ text))) (let e : length (d ∷ ds) + 1 ≡ suc (length ds + 1) = omega arith in e) ∙ drop_front ds text x

word_back : (ds text : List ℕ) → list_all is_inner ds ≡ true → word (ds ++ 32 ∷ text) ≡ Some (ds, text)
word_back ds text h =
    let at : position_or_len is_space (ds ++ 32 ∷ text) ≡ length ds = space_at ds text h in
    let longer : length (ds ++ 32 ∷ text) ≡ length ds + length (32 ∷ text) = length-append ds (32 ∷ text) in
    let some : 0 < length (32 ∷ text) = omega arith in
    let within : nat_lt (position_or_len is_space (ds ++ 32 ∷ text)) (length (ds ++ 32 ∷ text)) ≡ true = (let less : position_or_len is_space (ds ++ 32 ∷ text) < length (ds ++ 32 ∷ text) = omega (arith, at, longer, some) in grind (arith, nat_tests)) in
    rw within
    (ap (λ k. Some (take k (ds ++ 32 ∷ text), drop (k + 1) (ds ++ 32 ∷ text))) at
    ∙ ap (λ xs. Some (xs, drop (length ds + 1) (ds ++ 32 ∷ text))) (take_front ds (32 ∷ text))
    ∙ ap (λ xs. Some (ds, xs)) (drop_front ds text 32))

-- a word behind a front
pub first_back : {A : Type 0} (said : List ℕ → Option A) (front ds text : List ℕ) (a : A) → list_all is_inner ds ≡ true → said ds ≡ Some a → first_said said front (front ++ (ds ++ 32 ∷ text)) ≡ Some (a, text)
first_back {A} said front ds text a inner is =
    ap (λ o. option_and_then (with_rest said) (option_and_then word o)) (behind_front front (ds ++ 32 ∷ text))
    ∙ ap (option_and_then (with_rest said)) (word_back ds text inner)
    ∙ ap (option_map (λ (a : A). (a, text))) is

pub number_first : (front text : List ℕ) (n : ℕ) → IsWord n → first_said number_said front (front ++ (decimal n ++ 32 ∷ text)) ≡ Some (n, text)
number_first front text n h = first_back number_said front (decimal n) text n (decimal_inner n) (number_back n h)

pub signed_first : (front text : List ℕ) (z : ℤ) → IsSignedWord z → first_said signed_said front (front ++ (signed_decimal z ++ 32 ∷ text)) ≡ Some (z, text)
signed_first front text z h = first_back signed_said front (signed_decimal z) text z (signed_inner z) (signed_back z h)

-- ---- the end of a text

turned : (x : ℕ) (xs : List ℕ) → reverse (x ∷ xs) ≡ reverse xs ++ x ∷ []
turned x xs = reverse-append (x ∷ []) xs

all_turned : (p : ℕ → Bool) (xs : List ℕ) → list_all p xs ≡ true → list_all p (reverse xs) ≡ true
all_turned p [] h = refl
all_turned p (x ∷ xs) h =
    let parts = and_parts (p x) (list_all p xs) h in
    ap (list_all p) (turned x xs) ∙ list_all-append p (reverse xs) (x ∷ []) ∙ and_from (list_all p (reverse xs)) (p x && true) (all_turned p xs parts.1) (and_from (p x) true parts.0 refl)

pub last_back : (front ds : List ℕ) → list_all is_inner ds ≡ true → last_word (front ++ 32 ∷ ds) ≡ Some (front, ds)
last_back front ds h =
    let back : reverse (front ++ 32 ∷ ds) ≡ reverse ds ++ 32 ∷ reverse front = reverse-append front (32 ∷ ds) ∙ ap (λ (xs : List ℕ). xs ++ reverse front) (turned 32 ds) ∙ append_assoc (reverse ds) (32 ∷ []) (reverse front) in
    ap (λ (xs : List ℕ). option_map (λ (words : List ℕ × List ℕ). (reverse words.1, reverse words.0)) (word xs)) back
    ∙ ap (option_map (λ (words : List ℕ × List ℕ). (reverse words.1, reverse words.0))) (word_back (reverse ds) (reverse front) (all_turned is_inner ds h))
    ∙ ap (λ (xs : List ℕ). Some (xs, reverse (reverse ds))) (reverse-reverse front)
    ∙ ap (λ (xs : List ℕ). Some (front, xs)) (reverse-reverse ds)

pub before_back : (front end : List ℕ) → before end (front ++ end) ≡ Some front
before_back front end =
    ap (λ (xs : List ℕ). option_map (λ (front : List ℕ). reverse front) (behind (reverse end) xs)) (reverse-append front end)
    ∙ ap (option_map (λ (front : List ℕ). reverse front)) (behind_front (reverse end) (reverse front))
    ∙ ap Some (reverse-reverse front)
