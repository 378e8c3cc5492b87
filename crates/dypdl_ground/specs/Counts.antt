-- How many argument lists there are, counted up to a bound.
use Rattle.std.specs.Prelude.{ℕ, ◌+◌, ◌*◌, List, [], ◌∷◌, min}
use Rattle.dypdl_ground.specs.Grounds.{most_ground}

abbrev pub product : List ℕ → ℕ
product [] = 1
product (count ∷ counts) = count * product counts

-- so many, or one more than a model may have
abbrev pub capped : ℕ → ℕ
capped n = min n (most_ground + 1)
