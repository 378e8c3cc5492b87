-- When a search may be made.
use Rattle.std.specs.Prelude.{◌≡◌, ◌^◌, ◌≤◌}
use Rattle.board_words.specs.Rules.{IsWhole}
use Rattle.board_words.specs.Seats.{BoardFacts, SeatFacts, IsSeatOf}
use Rattle.dp_model.specs.declared.answers.Options.{Options}
use Rattle.dp_model.specs.declared.whole.Model.{Model}
use Rattle.dp_steps.specs.States.{Inner}
use Rattle.pass_ends.specs.Passes.{AreOptions}

-- The target is an inner state, and the options are in their ranges. The seat is a whole one of the board, no halt was raised, and
-- few numbers were drawn. The board's limit is the budget.
pub record MaySearch (m : Model) (options : Options) (board : BoardFacts) (seat : SeatFacts) : Type 0 where
  pub inner : Inner m m.target
  pub options_fit : AreOptions options
  pub on_board : IsSeatOf board seat
  pub whole : IsWhole seat.view
  pub no_halt : seat.view.raised ≡ 0
  pub few_drawn : seat.view.drawn ≤ 2 ^ 41
  pub limit : board.limit ≡ options.budget
