-- The mailboxes of a search with their ends.
use Rattle.std.specs.Prelude.{◌≡◌, ℕ, ◌≤◌, List, [], ◌∷◌, ◌++◌, length, slice_get, Some, vec_capacity}
use Rattle.std.specs.declared.alloc.Global.{Global}
use Rattle.std.specs.declared.vec.Vec.{Vec}
use Rattle.shard_mail.specs.Ends.{MailboxFacts, PosterFacts, TakerFacts, new_poster, new_taker}
use Rattle.best_turns.specs.declared.envelope.BestEnvelope.{BestEnvelope}
use Rattle.best_first.specs.declared.mails.Mails.{Mails}

abbrev pub Posters : Type 0
Posters = Vec (PosterFacts BestEnvelope) Global

-- each list has room for so many posters, and this many are in it
pub record HaveRoom (most held : ℕ) (lists : List Posters) : Type 0 where
  pub held_are : (i : ℕ) (v : Posters) → slice_get lists i ≡ Some v → length v.items ≡ held
  pub room : (i : ℕ) (v : Posters) → slice_get lists i ≡ Some v → most ≤ vec_capacity v

-- a list with one more poster, and as much room
abbrev pub IsWith : Posters → PosterFacts BestEnvelope → Posters → Type 0
IsWith v q w = (w.items ≡ v.items ++ q ∷ []) × (vec_capacity w ≡ vec_capacity v)

-- the poster at each place was added to the list at this place
pub record AreHandedOut (posters : List (PosterFacts BestEnvelope)) (old new : List Posters) : Type 0 where
  pub long : length new ≡ length old
  pub each : (i : ℕ) (v : Posters) (q : PosterFacts BestEnvelope) → slice_get old i ≡ Some v → slice_get posters i ≡ Some q → (w : Posters) × (slice_get new i ≡ Some w) × IsWith v q w

-- The first so many mailboxes of a search with so many shards, their takers, and of each shard a poster of each of them. No letter
-- was posted or taken.
pub record AreMails (shards : ℕ) (terms : List ℕ) (count : ℕ) (mails : Mails) : Type 0 where
  pub boxes_long : length mails.boxes.items ≡ count
  pub takers_long : length mails.takers.items ≡ count
  pub lists_long : length mails.posters.items ≡ shards
  pub room : HaveRoom shards count mails.posters.items
  pub senders : (k : ℕ) (b : MailboxFacts) → slice_get mails.boxes.items k ≡ Some b → b.senders ≡ shards
  pub takers : (k : ℕ) (b : MailboxFacts) (t : TakerFacts BestEnvelope) → slice_get mails.boxes.items k ≡ Some b → slice_get mails.takers.items k ≡ Some t → t ≡ new_taker b terms
  pub posters : (j k : ℕ) (v : Posters) (b : MailboxFacts) (q : PosterFacts BestEnvelope) → slice_get mails.posters.items j ≡ Some v → slice_get mails.boxes.items k ≡ Some b → slice_get v.items k ≡ Some q → q ≡ new_poster b terms j
