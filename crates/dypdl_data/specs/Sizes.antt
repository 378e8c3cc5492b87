-- Numbers of words, counted up to one more than a model may have.
use Rattle.std.specs.Prelude.{ℕ, ◌+◌, min}

abbrev pub most_words : ℕ
most_words = 16777216

abbrev pub capped : ℕ → ℕ
capped n = min n (most_words + 1)
