-- What contracts see of a board and of a seat, and which seats are of a board.
use Rattle.std.specs.Prelude.{◌≡◌, ℕ}
use Rattle.atomic_table.specs.Seated.{TableId}
use Rattle.board_words.specs.declared.seat.View.{View}

-- which board it is, the best word that it began with, and its limit of visits
pub record BoardFacts : Type 0 where
  pub id : TableId
  pub opening : ℕ
  pub limit : ℕ

-- the board that a seat is of, and what the seat knows
pub record SeatFacts : Type 0 where
  pub board : TableId
  pub view : View

-- the seat is of this board
abbrev pub IsSeatOf : BoardFacts → SeatFacts → Type 0
IsSeatOf board seat = (seat.board ≡ board.id) × (seat.view.opening ≡ board.opening) × (seat.view.limit ≡ board.limit)
