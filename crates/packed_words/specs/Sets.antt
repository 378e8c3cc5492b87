-- Sets of one object type in words.
use Rattle.std.specs.Prelude.{◌≡◌, ℕ, suc, ◌≤◌, false, nat_le, List, [], ◌∷◌, Option, Some, None}
use Rattle.std.specs.List.{filter}
use Rattle.bit_sets.specs.Sets.{has_bit}

-- no bit is set that is no member of an object type with this count
pub record IsClean (count : ℕ) (words : List ℕ) : Type 0 where
  pub above : (k : ℕ) → count ≤ k → has_bit words k ≡ false

-- a set of at most 64 members, in one word
unfoldable pub one_word : ℕ → List ℕ
one_word word = word ∷ []

-- those of some members that are not below a number
abbrev pub members_from : ℕ → List ℕ → List ℕ
members_from from members = filter (nat_le from) members

-- The next of some members from a number on is the first of those that are not below it.
abbrev pub IsNext : Option ℕ → ℕ → List ℕ → Type 0
IsNext (Some k) from members = members_from from members ≡ k ∷ members_from (suc k) members
IsNext None from members = members_from from members ≡ []
