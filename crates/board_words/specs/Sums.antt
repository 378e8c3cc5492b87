-- What all seats know together: the sum, the least and the greatest over their views.
use Rattle.std.specs.Prelude.{ℕ, ◌+◌, List, [], ◌∷◌, min, max}
use Rattle.board_words.specs.declared.seat.View.{View}

-- a number of each view, added up
abbrev pub total : (View → ℕ) → List View → ℕ
total f [] = 0
total f (v ∷ vs) = f v + total f vs

-- the least of a and a number of each view
abbrev pub least : ℕ → (View → ℕ) → List View → ℕ
least a f [] = a
least a f (v ∷ vs) = min (f v) (least a f vs)

-- the greatest of a number of each view, and 0 without views
abbrev pub greatest : (View → ℕ) → List View → ℕ
greatest f [] = 0
greatest f (v ∷ vs) = max (f v) (greatest f vs)
