-- Texts of digits as `parse` reads them.
use Rattle.std.proofs.Common.{◌≡◌, ℕ, ◌<◌, ◌^◌, true, ◌&&◌, inl, inr, List, length, None, Result, Ok, Err, ℤ, pos, negsuc, int_le, w64, FitsSigned, refl, arith}
use Rattle.std.specs.Result.{result_ok}
use Rattle.std.specs.Str.{all_ascii_digits}
use Rattle.std.specs.Str.Parse.{ParsesSigned, without_leading_sign, signed_digits_value}
use Rattle.std.proofs.lemmas.Str.Parse.{numerals_by_value, tells_all_ascii_digits}
use Rattle.std.proofs.lemmas.Bool.Decides.{nat_tests}
use Rattle.std.proofs.lemmas.Bool.{cases_Bool}
use Rattle.dypdl_nodes.specs.Scalars.{writes_number, number_written}

between_fits : (least most z : ℤ) → FitsSigned w64 least → FitsSigned w64 most → int_le least z && int_le z most ≡ true → FitsSigned w64 z
between_fits least (pos m) (pos n) low high e =
    let most : m < 2 ^ 63 = high.sfits in
    let below : n < 2 ^ 63 = grind (arith, nat_tests) in
    record { sfits = below }
between_fits (negsuc l) most (negsuc n) low high e =
    let least : l < 2 ^ 63 = low.sfits in
    let below : n < 2 ^ 63 = grind (arith, nat_tests) in
    record { sfits = below }
between_fits (pos l) most (negsuc n) low high e = cc
between_fits least (negsuc m) (pos n) low high e = grind (arith, nat_tests)

-- a number that does not fit 64 bits lies outside bounds that do
pub unread_is_unwritten : {E : Type 0} (least most : ℤ) (text : List ℕ) (r : Result ℤ E) → FitsSigned w64 least → FitsSigned w64 most → writes_number text ≡ true → ParsesSigned w64 10 text r → result_ok r ≡ None → number_written least most text ≡ None
unread_is_unwritten least most text (Ok n) low high e h is = cc
unread_is_unwritten least most text (Err bad) low high e h is =
    let some : 0 < length (without_leading_sign text) = grind (arith, nat_tests) in
    let digits : all_ascii_digits (without_leading_sign text) ≡ true = grind (arith, nat_tests) in
    let numeral = (numerals_by_value (λ ds. all_ascii_digits ds ≡ true) tells_all_ascii_digits).to _ digits in
    elim (cases_Bool (int_le least (signed_digits_value 10 text) && int_le (signed_digits_value 10 text) most)) [ inl k ↦ absurd (h ((some, numeral), between_fits least most _ low high k)) | inr k ↦ rw (e, k) refl ]
