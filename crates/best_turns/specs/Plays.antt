-- A shard as a player: the search and the number that it is held to.
use Rattle.std.specs.Prelude.{◌≡◌, ℕ, Bool}
use Rattle.board_words.specs.Seats.{BoardFacts, SeatFacts}
use Rattle.dp_model.specs.declared.parts.JoinOp.{JoinOp}
use Rattle.pass_ledger.specs.Passes.{Pass}
use Rattle.shard_core.specs.Stands.{Suited}
use Rattle.best_turns.specs.Turners.{Keeps}
use Rattle.best_turns.specs.declared.turner.BestTurner.{BestTurner}
use Rattle.best_turns.specs.declared.work.BestBoxes.{BestBoxes}

-- The search is one of the shard's law of costs and of its covering. The shard has the number, and goes on at its seat, or has ended.
pub record Plays {A B : Type 0} (least : Bool) (join : JoinOp) (prune fewest : Bool) (other : JoinOp) (p : Pass) (number : ℕ) (board : BoardFacts) (boxes : BestBoxes) (t : BestTurner A B) (seat : SeatFacts) : Type 0 where
  pub suited : Suited p least join prune fewest other
  pub me : t.shard.me ≡ number
  pub keeps : Keeps p board boxes.boxes.items t seat

abbrev pub plays_by : {A B : Type 0} → Bool → JoinOp → Bool → Bool → JoinOp → Pass × ℕ → BoardFacts → BestBoxes → BestTurner A B → SeatFacts → Type 0
plays_by least join prune fewest other terms board boxes t seat = Plays least join prune fewest other terms.0 terms.1 board boxes t seat
