-- When a shard with its seat and its ends of the mailboxes acts for a record of a search, and what it leaves when it ends.
use Rattle.std.specs.Prelude.{◌≡◌, ℕ, ◌<◌, List, length, slice_get, Option, Some, None}
use Rattle.board_words.specs.Seats.{BoardFacts, SeatFacts, IsSeatOf}
use Rattle.shard_mail.specs.Ends.{MailboxFacts, PosterFacts, TakerFacts, IsPosterOf, IsTakerOf}
use Rattle.pass_ledger.specs.Passes.{Pass}
use Rattle.best_ledger.specs.Histories.{to, came_from}
use Rattle.best_ledger.specs.Records.{IsPrefix}
use Rattle.best_ledger.specs.declared.records.BestRecord.{BestRecord}
use Rattle.best_seats.specs.Seats.{Sits, Sat}
use Rattle.best_seats.specs.declared.ended.BestEnded.{BestEnded}
use Rattle.best_seats.specs.declared.ended.BestEnded.TheVariants as ends
use Rattle.best_shard.specs.Stands.{Stands, EndsAs}
use Rattle.shard_turns.specs.Turners.{IsSharedBy}
use Rattle.best_turns.specs.Envelopes.{letters_in, taken_from, terms_of}
use Rattle.best_turns.specs.declared.envelope.BestEnvelope.{BestEnvelope}
use Rattle.best_turns.specs.declared.turner.BestTurner.{BestTurner}

-- ---- ends of the mailboxes

-- the taker is of the shard's own mailbox, under the terms of the model
pub record IsTakerFor (p : Pass) (boxes : List MailboxFacts) (i : ℕ) (taker : TakerFacts BestEnvelope) : Type 0 where
  pub of_box : (b : MailboxFacts) → slice_get boxes i ≡ Some b → IsTakerOf b taker
  pub terms : taker.terms ≡ terms_of p.model

-- there is a poster of each mailbox, under the shard's number and the terms of the model
pub record ArePostersFor (p : Pass) (boxes : List MailboxFacts) (i : ℕ) (posters : List (PosterFacts BestEnvelope)) : Type 0 where
  pub long : length posters ≡ p.shards
  pub of_box : (k : ℕ) (b : MailboxFacts) (q : PosterFacts BestEnvelope) → slice_get boxes k ≡ Some b → slice_get posters k ≡ Some q → IsPosterOf b q
  pub number : (k : ℕ) (q : PosterFacts BestEnvelope) → slice_get posters k ≡ Some q → q.number ≡ i
  pub terms : (k : ℕ) (q : PosterFacts BestEnvelope) → slice_get posters k ≡ Some q → q.terms ≡ terms_of p.model

-- the record received what was taken, and posted what the posters posted
pub record HasAllMail (p : Pass) (taken : List BestEnvelope) (posters : List (PosterFacts BestEnvelope)) (r : BestRecord) : Type 0 where
  pub received : (j : ℕ) → j < p.shards → came_from j r.history ≡ taken_from j taken
  pub posted : (k : ℕ) (q : PosterFacts BestEnvelope) → slice_get posters k ≡ Some q → letters_in q.posted ≡ to r.posted k

-- the record received no more than was taken, and the posters posted no more than the record did: where memory ran out, a
-- letter may have been taken or handed out in vain
pub record HasSomeMail (p : Pass) (taken : List BestEnvelope) (posters : List (PosterFacts BestEnvelope)) (r : BestRecord) : Type 0 where
  pub received : (j : ℕ) → j < p.shards → IsPrefix (came_from j r.history) (taken_from j taken)
  pub posted : (k : ℕ) (q : PosterFacts BestEnvelope) → slice_get posters k ≡ Some q → IsPrefix (letters_in q.posted) (to r.posted k)

-- ---- a shard that goes on

-- The shard stands for a record of the search, and its seat and its ends of the mailboxes tell what that record says.
pub record Acts {A B : Type 0} (p : Pass) (board : BoardFacts) (boxes : List MailboxFacts) (t : BestTurner A B) (seat : SeatFacts) : Type 0 where
  pub shard_record : BestRecord
  pub shared : IsSharedBy p board boxes
  pub stands : Stands p t.shard shard_record
  pub on_board : IsSeatOf board seat
  pub sits : Sits p t.budget seat.view shard_record
  pub taker : IsTakerFor p boxes t.shard.me t.taker
  pub posters : ArePostersFor p boxes t.shard.me t.posters.items
  pub mail : HasAllMail p t.taker.taken t.posters.items shard_record

-- ---- a shard that has ended by a halt

-- What a shard leaves: a record of the search whose parts it hands back.
pub record Leaves {A B : Type 0} (p : Pass) (board : BoardFacts) (boxes : List MailboxFacts) (end : BestEnded) (t : BestTurner A B) (seat : SeatFacts) : Type 0 where
  pub shard_record : BestRecord
  pub below : t.shard.me < p.shards
  pub ends : EndsAs p t.shard shard_record
  pub on_board : IsSeatOf board seat
  pub sat : Sat p end seat.view shard_record
  pub taker : IsTakerFor p boxes t.shard.me t.taker
  pub posters : ArePostersFor p boxes t.shard.me t.posters.items
  pub mail : HasSomeMail p t.taker.taken t.posters.items shard_record

-- ---- either

-- a shard that has ended idle could go on; after a halt it leaves its record
abbrev pub EndsBy : {A B : Type 0} → Pass → BoardFacts → List MailboxFacts → BestEnded → BestTurner A B → SeatFacts → Type 0
EndsBy p board boxes ends.Idle t seat = Acts p board boxes t seat
EndsBy p board boxes ends.Met t seat = Leaves p board boxes ends.Met t seat
EndsBy p board boxes (ends.Halted cause) t seat = Leaves p board boxes (ends.Halted cause) t seat

abbrev pub KeepsAs : {A B : Type 0} → Pass → BoardFacts → List MailboxFacts → Option BestEnded → BestTurner A B → SeatFacts → Type 0
KeepsAs p board boxes None t seat = Acts p board boxes t seat
KeepsAs p board boxes (Some end) t seat = EndsBy p board boxes end t seat

-- the shard goes on, or it has ended
abbrev pub Keeps : {A B : Type 0} → Pass → BoardFacts → List MailboxFacts → BestTurner A B → SeatFacts → Type 0
Keeps p board boxes t seat = KeepsAs p board boxes t.ended t seat
