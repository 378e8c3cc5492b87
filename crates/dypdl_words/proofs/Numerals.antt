-- Words of digits as `parse` reads them.
use Rattle.std.proofs.Common.{◌≡◌, ℕ, ◌<◌, ◌^◌, true, inl, inr, List, length, None, Result, Ok, Err, ℤ, pos, negsuc, w64, FitsSigned, refl, arith}
use Rattle.std.specs.Result.{result_ok}
use Rattle.std.specs.Str.{all_ascii_digits}
use Rattle.std.specs.Str.Parse.{ParsesSigned, without_leading_sign, signed_digits_value}
use Rattle.std.proofs.lemmas.Str.Parse.{numerals_by_value, tells_all_ascii_digits}
use Rattle.std.proofs.lemmas.Bool.Decides.{nat_tests}
use Rattle.std.proofs.lemmas.Bool.{cases_Bool}
use Rattle.dp_model.specs.Typing.{is_in_range}
use Rattle.dypdl_words.specs.Words.{number_in_range}

in_range_fits : (z : ℤ) → is_in_range z ≡ true → FitsSigned w64 z
in_range_fits (pos n) e =
    let below : n < 2 ^ 63 = grind (arith, nat_tests) in
    record { sfits = below }
in_range_fits (negsuc n) e =
    let below : n < 2 ^ 63 = grind (arith, nat_tests) in
    record { sfits = below }

-- a word of digits that does not fit 64 bits is out of range
pub unread_is_out_of_range : {E : Type 0} (word : List ℕ) (r : Result ℤ E) → 0 < length (without_leading_sign word) → all_ascii_digits (without_leading_sign word) ≡ true → ParsesSigned w64 10 word r → result_ok r ≡ None → number_in_range (signed_digits_value 10 word) ≡ None
unread_is_out_of_range word (Ok n) some digits h is = cc
unread_is_out_of_range word (Err e) some digits h is =
    let numeral = (numerals_by_value (λ ds. all_ascii_digits ds ≡ true) tells_all_ascii_digits).to _ digits in
    elim (cases_Bool (is_in_range (signed_digits_value 10 word))) [ inl e ↦ absurd (h ((some, numeral), in_range_fits _ e)) | inr e ↦ rw e refl ]
