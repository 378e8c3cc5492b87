-- Words of digits as `parse` reads them.
use Rattle.std.proofs.Common.{◌≡◌, ℕ, ◌<◌, ◌≤◌, ◌^◌, true, List, length, IfSome, IfNone, Result, Ok, Err, arith}
use Rattle.std.specs.Result.{result_ok}
use Rattle.std.specs.Str.{all_ascii_digits}
use Rattle.std.specs.Str.Parse.{ParsesUnsigned, digits_value}
use Rattle.std.proofs.lemmas.Str.Parse.{numerals_by_value, tells_all_ascii_digits, parse_digits}

-- what is read of digits is their number, unless it does not fit 64 bits
pub read_digits : {E : Type 0} (text : List ℕ) (r : Result ℕ E) → all_ascii_digits text ≡ true → 0 < length text → ParsesUnsigned 64 10 text r → IfSome (result_ok r) (λ n. n ≡ digits_value 10 text) × IfNone (result_ok r) (2 ^ 64 ≤ digits_value 10 text)
read_digits {E} text (Ok n) digits filled h =
    let is = parse_digits (numerals_by_value (λ ds. all_ascii_digits ds ≡ true) tells_all_ascii_digits) {E = E} 64 text (Ok n) h digits in
    (is.1, tt)
read_digits {E} text (Err e) digits filled h =
    let is = parse_digits (numerals_by_value (λ ds. all_ascii_digits ds ≡ true) tells_all_ascii_digits) {E = E} 64 text (Err e) h digits in
    let short : digits_value 10 text < 2 ^ 64 → ⊥ = λ fits. is (filled, fits) in
    (tt, omega (arith, short))
