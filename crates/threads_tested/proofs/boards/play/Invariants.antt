use Rattle.std.proofs.Common.{◌≡◌, ◌≤◌}
use Rattle.board_words.specs.Seats.{IsSeatOf}
use Rattle.threads_tested.proofs.boards.play.Given as goal

abbrev pub invariant-loop : goal.invariant-loop
invariant-loop l = IsSeatOf l.board l.seat × (l.seat.view.drawn ≡ l.counter) × (1 ≤ l.seat.view.part)
