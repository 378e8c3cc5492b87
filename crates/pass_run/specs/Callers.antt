-- The callers of the shards of a pass.
use Rattle.std.specs.Prelude.{◌≡◌, ℕ, List, [], ◌∷◌, slice_get, Option, Some, None}
use Rattle.std.specs.List.{flat_map}
use Rattle.announce_laws.specs.Called.{AreCallersFor}
use Rattle.announcer.specs.Ends.{CallerFacts, QueueFacts, AreCallersOf}
use Rattle.pass_ledger.specs.Ledgers.{IsBest}
use Rattle.pass_ledger.specs.Passes.{Pass}
use Rattle.pass_ledger.specs.Records.{record_of, Together}
use Rattle.pass_ledger.specs.declared.records.ShardRecord.{ShardRecord}
use Rattle.shard_threads.specs.declared.seated.Seated.{Seated}
use Rattle.shard_turns.specs.Calls.{CallsFor, queue_of}
use Rattle.shard_turns.specs.declared.calling.Calling.{Calling}
use Rattle.shard_turns.specs.declared.turner.Turner.{Turner}

-- the caller of a shard that calls
abbrev pub caller_list : Option Calling → List CallerFacts
caller_list None = []
caller_list (Some c) = c.caller ∷ []

abbrev pub callers_of : {A B : Type 0} → List (Seated (Turner A B)) → List CallerFacts
callers_of {A} {B} shards = flat_map (λ (s : Seated (Turner A B)). caller_list s.player.calling) shards

-- each shard calls to this queue
abbrev pub CallTo : {A B : Type 0} → QueueFacts → List (Seated (Turner A B)) → Type 0
CallTo {A} {B} queue shards = (i : ℕ) (s : Seated (Turner A B)) → slice_get shards i ≡ Some s → queue_of s.player.calling ≡ Some queue

-- what each shard that calls has called is known by the record of its number
abbrev pub HaveCalled : {A B : Type 0} → Pass → List ShardRecord → List (Seated (Turner A B)) → Type 0
HaveCalled {A} {B} p records shards = (i : ℕ) (s : Seated (Turner A B)) → slice_get shards i ≡ Some s → CallsFor p i (record_of records i) s.player.calling

-- There are records of the shards of one pass, and for each a caller of the queue that called what the record knows. The best word
-- before the pass was lowered to what they hold.
pub record AreLastCallers (p : Pass) (before after : ℕ) (queue : QueueFacts) (callers : List CallerFacts) : Type 0 where
  pub records : List ShardRecord
  pub together : Together p records
  pub best_is : IsBest p records before after
  pub callers_for : AreCallersFor p records callers
  pub of_queue : AreCallersOf queue callers
