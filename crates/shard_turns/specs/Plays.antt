-- A shard as a player: the pass, the number and the queue that it is held to.
use Rattle.std.specs.Prelude.{◌≡◌, ℕ, Bool, Option}
use Rattle.announcer.specs.Ends.{QueueFacts}
use Rattle.std.specs.declared.alloc.Global.{Global}
use Rattle.std.specs.declared.vec.Vec.{Vec}
use Rattle.board_words.specs.Seats.{BoardFacts, SeatFacts}
use Rattle.dp_model.specs.declared.parts.JoinOp.{JoinOp}
use Rattle.shard_mail.specs.Ends.{MailboxFacts}
use Rattle.pass_ledger.specs.Passes.{Pass}
use Rattle.shard_core.specs.Stands.{Suited}
use Rattle.shard_turns.specs.Calls.{queue_of}
use Rattle.shard_turns.specs.Turners.{Keeps}
use Rattle.shard_turns.specs.declared.turner.Turner.{Turner}

abbrev pub Boxes : Type 0
Boxes = Vec MailboxFacts Global

-- The pass is one of the shard's law of costs and of its covering. The shard has the number, calls to the queue if there is one, and
-- goes on at its seat, or has ended.
pub record Plays {A B : Type 0} (least : Bool) (join : JoinOp) (prune fewest : Bool) (other : JoinOp) (p : Pass) (number : ℕ) (queue : Option QueueFacts) (board : BoardFacts) (boxes : Boxes) (t : Turner A B) (seat : SeatFacts) : Type 0 where
  pub suited : Suited p least join prune fewest other
  pub me : t.shard.me ≡ number
  pub queue_is : queue_of t.calling ≡ queue
  pub keeps : Keeps p board boxes.items t seat

abbrev pub plays_by : {A B : Type 0} → Bool → JoinOp → Bool → Bool → JoinOp → Pass × ℕ × Option QueueFacts → BoardFacts → Boxes → Turner A B → SeatFacts → Type 0
plays_by least join prune fewest other terms board boxes t seat = Plays least join prune fewest other terms.0 terms.1 terms.2 board boxes t seat
