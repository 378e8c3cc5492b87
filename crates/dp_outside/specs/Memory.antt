-- What contracts see of a shelf and a sink in memory whose calls fail where they were told to.
use Rattle.std.specs.Prelude.{ℕ, ◌+◌, List, min}

-- One more than a 64-bit counter, which stays at its last value.
abbrev pub one_more : ℕ → ℕ
one_more count = min (count + 1) 18446744073709551615

-- The files, the numbers of the read calls that fail (counted from 1), how many read calls there were, and
-- how many failed.
pub record MemFiles : Type 0 where
  pub files : List (List ℕ × List ℕ)
  pub failing : List ℕ
  pub calls : ℕ
  pub faults : ℕ

-- The bytes taken, the numbers of the write calls that fail (counted from 1), how many write calls there
-- were, and how many failed.
pub record MemBytes : Type 0 where
  pub bytes : List ℕ
  pub failing : List ℕ
  pub calls : ℕ
  pub faults : ℕ
