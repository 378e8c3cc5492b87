-- Numbers of words that are counted up to a bound.
use Rattle.std.proofs.Common.{◌≡◌, ℕ, suc, zero, ◌+◌, ◌*◌, ◌<◌, ◌≤◌, ◌⊎◌, inl, inr, sym, ap, ◌∙◌, arith}
use Rattle.std.proofs.lemmas.Bool.{cases_lt}
use Rattle.dypdl_data.specs.Sizes.{most_words, capped}

capped_small : (n : ℕ) → n ≤ most_words + 1 → capped n ≡ n
capped_small n h = omega arith

capped_large : (n : ℕ) → most_words + 1 ≤ n → capped n ≡ most_words + 1
capped_large n h = omega arith

at_least : (n w : ℕ) → n ≤ n * suc w
at_least n w = grind arith

by_size : (n w : ℕ) → (n < most_words + 1) ⊎ (most_words + 1 ≤ n) → capped (capped n * w) ≡ capped (n * w)
by_size n w (inl h) = ap (λ (k : ℕ). capped (k * w)) (capped_small n (omega arith))
by_size n zero (inr h) = grind arith
by_size n (suc w) (inr h) =
    let left : most_words + 1 ≤ capped n * suc w = rw (capped_large n h) (at_least (most_words + 1) w) in
    let more : n ≤ n * suc w = at_least n w in
    let right : most_words + 1 ≤ n * suc w = omega arith in
    capped_large (capped n * suc w) left ∙ sym (capped_large (n * suc w) right)

pub capped_times : (n w : ℕ) → capped (capped n * w) ≡ capped (n * w)
capped_times n w = by_size n w (cases_lt n (most_words + 1))

pub capped_few : (n : ℕ) → capped n ≤ most_words → n ≤ most_words
capped_few n h = omega arith

pub capped_is : (n : ℕ) → capped n ≤ most_words → n ≡ capped n
capped_is n h = omega arith

pub capped_above : (n : ℕ) → most_words < capped n → most_words < n
capped_above n h = omega arith
