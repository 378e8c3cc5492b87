use Rattle.end_guards.proofs.Boards.{worked_board, worked_seats, worked_mail}
use Rattle.end_guards.proofs.law_worked_seats.Goals as goal

pub returns : goal.returns
returns c = record { board = worked_board; seats = worked_seats; mail = worked_mail }
