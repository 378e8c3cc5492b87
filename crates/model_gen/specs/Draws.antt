-- The numbers of a generated model: a linear congruential generator with the multiplier 48271 modulo 2^31 - 1, and draws
-- from 1 to 100.
use Rattle.std.specs.Prelude.{ℕ, zero, suc, ◌+◌, ◌*◌, ◌%◌}

-- the generator's number before any draw
abbrev pub first_of : (seed : ℕ) → ℕ
first_of seed = seed % 2147483646 + 1

-- its next number
abbrev pub next_of : ℕ → ℕ
next_of x = (x * 48271) % 2147483647

-- its number after so many draws
abbrev pub after : (seed draws : ℕ) → ℕ
after seed zero = first_of seed
after seed (suc k) = next_of (after seed k)

-- what a draw gives, by the number that it sets
abbrev pub drawn : ℕ → ℕ
drawn x = 1 + x % 100

-- the draw with this place, from 0
abbrev pub draw : (seed place : ℕ) → ℕ
draw seed k = drawn (after seed (suc k))
