-- What is known of the costs that a shard called, and what a call changes.
use Rattle.std.specs.Prelude.{◌≡◌, ℕ, ◌^◌, ◌<◌, ◌⊎◌, Option, Some, None, ℤ}
use Rattle.announce_laws.specs.Called.{AreCalled, WasRefused}
use Rattle.announcer.specs.Ends.{CallerFacts, QueueFacts, IsCallerOf, posted_by, refused_by}
use Rattle.pass_ledger.specs.Passes.{Pass}
use Rattle.pass_ledger.specs.declared.records.Held.{Held}
use Rattle.pass_ledger.specs.declared.records.ShardRecord.{ShardRecord}
use Rattle.shard_turns.specs.declared.calling.Calling.{Calling}

-- the queue to which a shard calls, if there is one
abbrev pub queue_of : Option Calling → Option QueueFacts
queue_of None = None
queue_of (Some c) = Some c.caller.queue

-- ---- what was called

-- The shard calls to the queue under its number. It called costs of steps to base states from nodes that it visited, none better
-- than what it holds, and so it did where it was refused, no more often than it visited nodes.
pub record IsCalling (p : Pass) (i : ℕ) (r : ShardRecord) (c : Calling) : Type 0 where
  pub caller : IsCallerOf c.queue.now c.caller
  pub number : c.caller.number ≡ i
  pub called : AreCalled p i r c.caller.posted
  pub refused : WasRefused p i r c.caller.refused

-- so it is where the shard calls
abbrev pub CallsFor : Pass → ℕ → ShardRecord → Option Calling → Type 0
CallsFor p i r None = Unit {0}
CallsFor p i r (Some c) = IsCalling p i r c

-- ---- a call

-- it may call
abbrev pub MayCall : Option Calling → Type 0
MayCall None = Unit {0}
MayCall (Some c) = IsCallerOf c.queue.now c.caller × (c.caller.refused < 2 ^ 41)

-- the call of a cost was taken or refused
abbrev pub IsCall : ℤ → CallerFacts → CallerFacts → Type 0
IsCall cost c d = (d ≡ posted_by c cost) ⊎ (d ≡ refused_by c)

-- the cost of what is held was called, or nothing was
abbrev pub HasCalled : Option Held → Option Calling → Option Calling → Type 0
HasCalled held None after = after ≡ None
HasCalled held (Some c) after = (d : Calling) × (after ≡ Some d) × (d.queue.now ≡ c.queue.now) × ((d.caller ≡ c.caller) ⊎ ((h : Held) × (held ≡ Some h) × IsCall h.cost c.caller d.caller))
