-- A decimal is digits, however great the number is.
use Rattle.std.proofs.Common.{◌≡◌, ℕ, zero, suc, ◌+◌, ◌/◌, ◌%◌, ◌<◌, ◌==◌, decimal, Bool, true, false, List, [], ◌∷◌, refl, arith}
use Rattle.std.specs.Prelude.{if◌then◌else◌, nat_lt, nat_le}
use Rattle.std.specs.Fmt.{digits, digits_onto, digit_glyph}
use Rattle.std.specs.List.{list_all}
use Rattle.std.proofs.lemmas.Bool.{and_from}
use Rattle.std.proofs.lemmas.Bool.Decides.{nat_tests}
use Rattle.dp_base.specs.Bytes.{is_digit}

glyph_digit : (n : ℕ) → is_digit (digit_glyph false (n % 10)) ≡ true
glyph_digit n =
    let small : n % 10 < 10 = omega arith in
    let is : nat_lt (n % 10) 10 ≡ true = grind (arith, nat_tests) in
    rw is (and_from (nat_le 48 (48 + n % 10)) (nat_le (48 + n % 10) 57) (grind (arith, nat_tests)) (grind (arith, nat_tests)))

either : (test : Bool) (xs ys : List ℕ) → list_all is_digit xs ≡ true → list_all is_digit ys ≡ true → list_all is_digit (if test then xs else ys) ≡ true
either true xs ys a b = a
either false xs ys a b = b

onto_digits : (k n : ℕ) (acc : List ℕ) → list_all is_digit acc ≡ true → list_all is_digit (digits_onto k 10 false n acc) ≡ true
onto_digits zero n acc h = h
onto_digits (suc k) n acc h =
    let more = digit_glyph false (n % 10) ∷ acc in
    let are : list_all is_digit more ≡ true = and_from (is_digit (digit_glyph false (n % 10))) (list_all is_digit acc) (glyph_digit n) h in
    either (n / 10 == 0) more (digits_onto k 10 false (n / 10) more) are (onto_digits k (n / 10) more are)

pub decimal_digits : (n : ℕ) → list_all is_digit (decimal n) ≡ true
unfolding digits
decimal_digits n = onto_digits 64 n [] refl
