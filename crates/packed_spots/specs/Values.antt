-- The values of parameters, each in a word.
use Rattle.std.specs.Prelude.{ℕ, List, [], ◌∷◌, slice_index}

-- four words: the values, and zeros behind them
abbrev pub in_four : List ℕ → List ℕ
in_four given = slice_index given 0 ∷ slice_index given 1 ∷ slice_index given 2 ∷ slice_index given 3 ∷ []
