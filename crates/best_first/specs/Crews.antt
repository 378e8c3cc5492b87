-- The shards of a search, before their first turn and between any two turns.
use Rattle.std.specs.Prelude.{◌≡◌, ℕ, List, [], length, map, slice_get, Option, Some, None}
use Rattle.board_words.specs.Seats.{BoardFacts, SeatFacts}
use Rattle.shard_mail.specs.Ends.{MailboxFacts, PosterFacts}
use Rattle.state_layout.specs.declared.node.Node.{Node}
use Rattle.best_ledger.specs.Events.{fresh}
use Rattle.pass_ledger.specs.Passes.{Pass}
use Rattle.best_shard.specs.Stands.{Stands}
use Rattle.shard_threads.specs.declared.seated.Seated.{Seated}
use Rattle.best_turns.specs.Turners.{IsTakerFor, ArePostersFor, Keeps}
use Rattle.best_turns.specs.declared.envelope.BestEnvelope.{BestEnvelope}
use Rattle.best_turns.specs.declared.turner.BestTurner.{BestTurner}

-- ---- before the first turn

-- the shard of this number has taken no turn, and none of its letters was posted or taken
pub record IsFresh {A B : Type 0} (p : Pass) (budget : ℕ) (boxes : List MailboxFacts) (i : ℕ) (t : BestTurner A B) : Type 0 where
  pub start : Option Node
  pub stands : Stands p t.shard (fresh p.shards start)
  pub me : t.shard.me ≡ i
  pub goes_on : t.ended ≡ None
  pub budget_is : t.budget ≡ budget
  pub taker : IsTakerFor p boxes i t.taker
  pub taken : t.taker.taken ≡ []
  pub posters : ArePostersFor p boxes i t.posters.items
  pub posted : (k : ℕ) (q : PosterFacts BestEnvelope) → slice_get t.posters.items k ≡ Some q → q.posted ≡ []

-- the first so many shards of a search
pub record AreFresh {A B : Type 0} (p : Pass) (budget : ℕ) (boxes : List MailboxFacts) (count : ℕ) (turners : List (BestTurner A B)) : Type 0 where
  pub long : length turners ≡ count
  pub each : (i : ℕ) (t : BestTurner A B) → slice_get turners i ≡ Some t → IsFresh p budget boxes i t

-- a mailbox for each shard, which each shard may post to
pub record AreBoxes (shards : ℕ) (boxes : List MailboxFacts) : Type 0 where
  pub long : length boxes ≡ shards
  pub senders : (k : ℕ) (b : MailboxFacts) → slice_get boxes k ≡ Some b → b.senders ≡ shards

-- ---- between two turns

-- a shard for each number, which goes on at its seat, or has ended
pub record KeepAll {A B : Type 0} (p : Pass) (board : BoardFacts) (boxes : List MailboxFacts) (shards : List (Seated (BestTurner A B))) : Type 0 where
  pub boxes_long : length boxes ≡ p.shards
  pub long : length shards ≡ p.shards
  pub numbers : (i : ℕ) (s : Seated (BestTurner A B)) → slice_get shards i ≡ Some s → s.player.shard.me ≡ i
  pub each : (i : ℕ) (s : Seated (BestTurner A B)) → slice_get shards i ≡ Some s → Keeps p board boxes s.player s.seat

-- the seats of the shards
abbrev pub seats_of : {A B : Type 0} → List (Seated (BestTurner A B)) → List SeatFacts
seats_of shards = map (λ s. s.seat) shards
