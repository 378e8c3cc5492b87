-- A seat from which parts went, and one into which seats were joined.
use Rattle.std.specs.Prelude.{ℕ, ◌-◌, List, [], ◌∷◌}
use Rattle.board_words.specs.Seats.{SeatFacts}
use Rattle.board_words.specs.Steps.{after_join}
use Rattle.board_words.specs.declared.seat.View.{View}

-- a seat from which so many parts went
abbrev pub with_less : View → ℕ → View
with_less v count = record v { part = v.part - count }

-- the seats were joined into one, in turn
abbrev pub joined : View → List SeatFacts → View
joined v [] = v
joined v (s ∷ seats) = joined (after_join v s.view) seats
