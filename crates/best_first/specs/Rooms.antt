-- What the shards of a search leave when they are taken apart.
use Rattle.std.specs.Prelude.{◌≡◌, ℕ, ◌≤◌, List, length, slice_get, Some, vec_capacity}
use Rattle.path_log.specs.Paths.{Log}
use Rattle.pass_ledger.specs.Passes.{Pass}
use Rattle.best_ledger.specs.declared.records.BestRecord.{BestRecord}
use Rattle.best_shard.specs.Calls.{IsEnd}
use Rattle.best_shard.specs.Stands.{EndsAs}
use Rattle.best_shard.specs.declared.shard.BestShardEnd.{BestShardEnd}
use Rattle.shard_mail.specs.Ends.{MailboxFacts, PosterFacts, TakerFacts, IsTakerOf, ArePostersOf, IsBegunOf}
use Rattle.shard_mail.specs.Mails.{letters_of}
use Rattle.shard_threads.specs.declared.seated.Seated.{Seated}
use Rattle.best_turns.specs.Envelopes.{sender_of}
use Rattle.best_turns.specs.declared.envelope.BestEnvelope.{BestEnvelope}
use Rattle.best_turns.specs.declared.turner.BestTurner.{BestTurner}
use Rattle.best_first.specs.Crews.{seats_of}
use Rattle.best_first.specs.Mails.{Posters, HaveRoom}
use Rattle.best_first.specs.declared.room.Room.{Room}

-- room for so many shards, of which this many were taken apart
pub record IsRoomFor (most held : ℕ) (room : Room) : Type 0 where
  pub ends_long : length room.ends.items ≡ held
  pub logs_long : length room.logs.items ≡ held
  pub takers_long : length room.takers.items ≡ held
  pub seats_long : length room.seats.items ≡ held
  pub posters_long : length room.posters.items ≡ most
  pub ends_room : most ≤ vec_capacity room.ends
  pub logs_room : most ≤ vec_capacity room.logs
  pub takers_room : most ≤ vec_capacity room.takers
  pub seats_room : most ≤ vec_capacity room.seats
  pub posters_room : HaveRoom most held room.posters.items

-- the shard handed back the parts of whatever record it ends as
abbrev pub HandsBack : {A B : Type 0} → BestTurner A B → BestShardEnd → Log → Type 0
HandsBack t e log = (p : Pass) (r : BestRecord) → EndsAs p t.shard r → IsEnd p t.shard.me r e log

-- each shard has as many posters as there are shards
abbrev pub AreFull : {A B : Type 0} → List (Seated (BestTurner A B)) → Type 0
AreFull {A} {B} shards = (i : ℕ) (s : Seated (BestTurner A B)) → slice_get shards i ≡ Some s → length s.player.posters.items ≡ length shards

-- The first shards were taken apart: what each handed back stands at its place, its taker and its seat too, and its poster of each
-- mailbox at its place among the posters of this mailbox.
pub record AreApart {A B : Type 0} (shards : List (Seated (BestTurner A B))) (room : Room) : Type 0 where
  pub ends : (i : ℕ) (s : Seated (BestTurner A B)) (e : BestShardEnd) (log : Log) → slice_get shards i ≡ Some s → slice_get room.ends.items i ≡ Some e → slice_get room.logs.items i ≡ Some log → HandsBack s.player e log
  pub takers : (i : ℕ) (s : Seated (BestTurner A B)) (taker : TakerFacts BestEnvelope) → slice_get shards i ≡ Some s → slice_get room.takers.items i ≡ Some taker → taker ≡ s.player.taker
  pub seats : room.seats.items ≡ seats_of shards
  pub posters : (i k : ℕ) (s : Seated (BestTurner A B)) (row : Posters) (q : PosterFacts BestEnvelope) → slice_get shards i ≡ Some s → slice_get room.posters.items k ≡ Some row → slice_get row.items i ≡ Some q → slice_get s.player.posters.items k ≡ Some q

-- the takers and the posters are of the mailboxes, one for each
pub record AreOfBoxes (boxes : List MailboxFacts) (takers : List (TakerFacts BestEnvelope)) (posters : List Posters) : Type 0 where
  pub takers_long : length takers ≡ length boxes
  pub posters_long : length posters ≡ length boxes
  pub takers_of : (k : ℕ) (b : MailboxFacts) (t : TakerFacts BestEnvelope) → slice_get boxes k ≡ Some b → slice_get takers k ≡ Some t → IsTakerOf b t
  pub posters_of : (k : ℕ) (b : MailboxFacts) (row : Posters) → slice_get boxes k ≡ Some b → slice_get posters k ≡ Some row → ArePostersOf b row.items

-- of each mailbox, what was taken of each sender begins what this one posted
abbrev pub AreBegun : List (TakerFacts BestEnvelope) → List Posters → Type 0
AreBegun takers posters = (k : ℕ) (t : TakerFacts BestEnvelope) (row : Posters) → slice_get takers k ≡ Some t → slice_get posters k ≡ Some row → IsBegunOf sender_of row.items t.taken

-- all that each poster posted was taken
abbrev pub IsAllTaken : List (PosterFacts BestEnvelope) → List BestEnvelope → Type 0
IsAllTaken posters taken = (i : ℕ) (q : PosterFacts BestEnvelope) → slice_get posters i ≡ Some q → letters_of sender_of q.number taken ≡ q.posted

-- of each mailbox, all that was posted was taken
abbrev pub AreAllTaken : List (TakerFacts BestEnvelope) → List Posters → Type 0
AreAllTaken takers posters = (k : ℕ) (t : TakerFacts BestEnvelope) (row : Posters) → slice_get takers k ≡ Some t → slice_get posters k ≡ Some row → IsAllTaken row.items t.taken
