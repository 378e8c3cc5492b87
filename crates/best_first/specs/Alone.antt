-- Shards that the calling thread turns alone, and when it is done with them.
use Rattle.std.specs.Prelude.{◌≡◌, ℕ, List, [], slice_get, Option, Some, None}
use Rattle.best_ledger.specs.declared.records.BestRecord.{BestRecord}
use Rattle.best_shard.specs.Stands.{Stands}
use Rattle.best_seats.specs.declared.ended.BestEnded.{BestEnded}
use Rattle.best_seats.specs.declared.ended.BestEnded.TheVariants as ends
use Rattle.best_turns.specs.declared.turner.BestTurner.{BestTurner}
use Rattle.pass_ledger.specs.Passes.{Pass}
use Rattle.shard_threads.specs.declared.seated.Seated.{Seated}

-- the shard halted the search, or met the halt of another
abbrev pub HasStopped : Option BestEnded → Type 0
HasStopped None = ⊥
HasStopped (Some ends.Idle) = ⊥
HasStopped (Some ends.Met) = Unit {0}
HasStopped (Some (ends.Halted cause)) = Unit {0}

-- the shard could take one more turn: it has not ended, or it is idle
abbrev pub CanGoOn : Option BestEnded → Type 0
CanGoOn None = Unit {0}
CanGoOn (Some ends.Idle) = Unit {0}
CanGoOn (Some ends.Met) = ⊥
CanGoOn (Some (ends.Halted cause)) = ⊥

-- The shard could go on, and has nothing to do: in each record for which it stands no node is open, and no letter is to be posted.
pub record IsResting {A B : Type 0} (s : Seated (BestTurner A B)) : Type 0 where
  pub goes_on : CanGoOn s.player.ended
  pub idle : (p : Pass) (r : BestRecord) → Stands p s.player.shard r → (r.waiting ≡ []) × (r.unsent ≡ [])

-- each shard rests
abbrev pub AreResting : {A B : Type 0} → List (Seated (BestTurner A B)) → Type 0
AreResting {A} {B} shards = (i : ℕ) (s : Seated (BestTurner A B)) → slice_get shards i ≡ Some s → IsResting s

-- one of the shards has stopped
abbrev pub HasOneStopped : {A B : Type 0} → List (Seated (BestTurner A B)) → Type 0
HasOneStopped {A} {B} shards = (i : ℕ) × (s : Seated (BestTurner A B)) × (slice_get shards i ≡ Some s) × HasStopped s.player.ended
