-- Bytes that the readers of texts tell apart, and lines of a text.
use Rattle.std.specs.Prelude.{ℕ, Bool, ◌&&◌, ◌||◌, ◌==◌, nat_le, List, [], ◌∷◌, ◌++◌}

-- Blanks are spaces and tabs.
abbrev pub is_blank : ℕ → Bool
is_blank byte = byte == 32 || byte == 9

-- one of the ten decimal digits
abbrev pub is_digit : ℕ → Bool
is_digit byte = nat_le 48 byte && nat_le byte 57

-- a text and the line feed that ends it
abbrev pub line : List ℕ → List ℕ
line text = text ++ 10 ∷ []
