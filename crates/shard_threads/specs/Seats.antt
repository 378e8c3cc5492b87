-- Seats that are split off for players.
use Rattle.std.specs.Prelude.{◌≡◌, ℕ, List, length, slice_get, Some}
use Rattle.board_words.specs.Seats.{BoardFacts, IsSeatOf}
use Rattle.board_words.specs.Steps.{split_view}
use Rattle.board_words.specs.declared.seat.View.{View}
use Rattle.shard_threads.specs.declared.seated.Seated.{Seated}

-- the players in their order, each with a seat that was split off one with this view, with one part
pub record AreSeated {P : Type 0} (board : BoardFacts) (view : View) (players : List P) (seated : List (Seated P)) : Type 0 where
  pub long : length seated ≡ length players
  pub player_is : (i : ℕ) (s : Seated P) → slice_get seated i ≡ Some s → slice_get players i ≡ Some s.player
  pub on_board : (i : ℕ) (s : Seated P) → slice_get seated i ≡ Some s → IsSeatOf board s.seat
  pub view_is : (i : ℕ) (s : Seated P) → slice_get seated i ≡ Some s → s.seat.view ≡ split_view view
