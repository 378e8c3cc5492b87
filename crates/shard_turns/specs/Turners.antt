-- When a shard with its seat and its ends of the mailboxes acts for a record of a pass, and what it leaves when it ends.
use Rattle.std.specs.Prelude.{◌≡◌, ℕ, ◌^◌, ◌≤◌, ◌<◌, List, length, slice_get, Option, Some, None}
use Rattle.board_words.specs.Seats.{BoardFacts, SeatFacts, IsSeatOf}
use Rattle.shard_mail.specs.Ends.{MailboxFacts, PosterFacts, TakerFacts, IsPosterOf, IsTakerOf}
use Rattle.pass_ledger.specs.Letters.{of}
use Rattle.pass_ledger.specs.Passes.{Pass}
use Rattle.pass_ledger.specs.Records.{IsPrefix}
use Rattle.pass_ledger.specs.declared.records.ShardRecord.{ShardRecord}
use Rattle.shard_core.specs.Stands.{Stands, EndsAs}
use Rattle.shard_seats.specs.Seats.{Sits, HadMemory, Sat}
use Rattle.shard_seats.specs.declared.ended.Ended.{Ended}
use Rattle.shard_turns.specs.Calls.{CallsFor}
use Rattle.shard_turns.specs.Envelopes.{letters_in, taken_from, terms_of}
use Rattle.shard_turns.specs.declared.envelope.Envelope.{Envelope}
use Rattle.shard_turns.specs.declared.turner.Turner.{Turner}

-- ---- what the shards of a pass share

-- a mailbox for each shard, which each shard may post to, and a board whose limit is at most 2^40
pub record IsSharedBy (p : Pass) (board : BoardFacts) (boxes : List MailboxFacts) : Type 0 where
  pub long : length boxes ≡ p.shards
  pub senders : (k : ℕ) (b : MailboxFacts) → slice_get boxes k ≡ Some b → b.senders ≡ p.shards
  pub limit : board.limit ≤ 2 ^ 40

-- ---- ends of the mailboxes

-- the taker is of the shard's own mailbox, under the terms of the model
pub record IsTakerFor (p : Pass) (boxes : List MailboxFacts) (i : ℕ) (taker : TakerFacts Envelope) : Type 0 where
  pub of_box : (b : MailboxFacts) → slice_get boxes i ≡ Some b → IsTakerOf b taker
  pub terms : taker.terms ≡ terms_of p.model

-- there is a poster of each mailbox, under the shard's number and the terms of the model
pub record ArePostersFor (p : Pass) (boxes : List MailboxFacts) (i : ℕ) (posters : List (PosterFacts Envelope)) : Type 0 where
  pub long : length posters ≡ p.shards
  pub of_box : (k : ℕ) (b : MailboxFacts) (q : PosterFacts Envelope) → slice_get boxes k ≡ Some b → slice_get posters k ≡ Some q → IsPosterOf b q
  pub number : (k : ℕ) (q : PosterFacts Envelope) → slice_get posters k ≡ Some q → q.number ≡ i
  pub terms : (k : ℕ) (q : PosterFacts Envelope) → slice_get posters k ≡ Some q → q.terms ≡ terms_of p.model

-- the record received what was taken, and posted what the posters posted
pub record HasAllMail (p : Pass) (taken : List Envelope) (posters : List (PosterFacts Envelope)) (r : ShardRecord) : Type 0 where
  pub received : (j : ℕ) → j < p.shards → of r.received j ≡ taken_from j taken
  pub posted : (k : ℕ) (q : PosterFacts Envelope) → slice_get posters k ≡ Some q → letters_in q.posted ≡ of r.posted k

-- the record received no more than was taken, and the posters posted no more than the record did: where memory ran out, a
-- letter may have been taken or handed out in vain
pub record HasSomeMail (p : Pass) (taken : List Envelope) (posters : List (PosterFacts Envelope)) (r : ShardRecord) : Type 0 where
  pub received : (j : ℕ) → j < p.shards → IsPrefix (of r.received j) (taken_from j taken)
  pub posted : (k : ℕ) (q : PosterFacts Envelope) → slice_get posters k ≡ Some q → IsPrefix (letters_in q.posted) (of r.posted k)

-- ---- a shard that goes on

-- The shard stands for a record of the pass, and its seat and its ends of the mailboxes tell what that record says. What it called
-- are costs of solutions that it held.
pub record Acts {A B : Type 0} (p : Pass) (board : BoardFacts) (boxes : List MailboxFacts) (t : Turner A B) (seat : SeatFacts) : Type 0 where
  pub shard_record : ShardRecord
  pub shared : IsSharedBy p board boxes
  pub stands : Stands p t.shard shard_record
  pub on_board : IsSeatOf board seat
  pub sits : Sits p t.budget seat.view shard_record
  pub taker : IsTakerFor p boxes t.shard.me t.taker
  pub posters : ArePostersFor p boxes t.shard.me t.posters.items
  pub mail : HasAllMail p t.taker.taken t.posters.items shard_record
  pub calls : CallsFor p t.shard.me shard_record t.calling

-- ---- a shard that has ended

-- What a shard leaves: a record of the pass whose parts it hands back, and which knows what it called. Where it had memory, the
-- record received all that was taken, and the posters posted all that it did.
pub record Leaves {A B : Type 0} (p : Pass) (board : BoardFacts) (boxes : List MailboxFacts) (end : Ended) (t : Turner A B) (seat : SeatFacts) : Type 0 where
  pub shard_record : ShardRecord
  pub below : t.shard.me < p.shards
  pub ends : EndsAs p t.shard shard_record
  pub on_board : IsSeatOf board seat
  pub sat : Sat p t.shard.me end seat.view shard_record
  pub taker : IsTakerFor p boxes t.shard.me t.taker
  pub posters : ArePostersFor p boxes t.shard.me t.posters.items
  pub mail : HasSomeMail p t.taker.taken t.posters.items shard_record
  pub all_mail : HadMemory end → HasAllMail p t.taker.taken t.posters.items shard_record
  pub calls : CallsFor p t.shard.me shard_record t.calling

-- ---- either

abbrev pub KeepsAs : {A B : Type 0} → Pass → BoardFacts → List MailboxFacts → Option Ended → Turner A B → SeatFacts → Type 0
KeepsAs p board boxes None t seat = Acts p board boxes t seat
KeepsAs p board boxes (Some end) t seat = Leaves p board boxes end t seat

-- the shard goes on, or it has ended
abbrev pub Keeps : {A B : Type 0} → Pass → BoardFacts → List MailboxFacts → Turner A B → SeatFacts → Type 0
Keeps p board boxes t seat = KeepsAs p board boxes t.ended t seat
