-- The one shard of a pass, which takes what it hands out, and its seat.
use Rattle.std.specs.Prelude.{◌≡◌, ℕ, ◌+◌, ◌^◌, ◌≤◌, Bool, List, ◌++◌, length, Option, Some, None, ℤ}
use Rattle.std.specs.Option.{option_to_list}
use Rattle.announce_laws.specs.Called.{AreCalled}
use Rattle.announcing.specs.Telling.{IsTold}
use Rattle.announcing.specs.declared.telling.Told.{Told}
use Rattle.board_words.specs.Seats.{BoardFacts, SeatFacts, IsSeatOf}
use Rattle.pass_ledger.specs.Letters.{of}
use Rattle.pass_ledger.specs.Passes.{Pass}
use Rattle.pass_ledger.specs.Records.{IsPrefix}
use Rattle.pass_ledger.specs.declared.records.Held.{Held}
use Rattle.pass_ledger.specs.declared.records.ShardRecord.{ShardRecord}
use Rattle.shard_core.specs.Calls.{IsQuiet}
use Rattle.shard_core.specs.Stands.{Stands, EndsAs}
use Rattle.shard_core.specs.declared.shard.Shard.{Shard}
use Rattle.shard_seats.specs.Seats.{Sits, Sat}
use Rattle.shard_seats.specs.declared.ended.Ended.{Ended}

-- ---- the shard

-- The shard is the only one of its pass, and stands for a record that received all that it posted.
pub record Goes {A B : Type 0} (p : Pass) (s : Shard A B) : Type 0 where
  pub shard_record : ShardRecord
  pub stands : Stands p s shard_record
  pub alone : p.shards ≡ 1
  pub arrived : of shard_record.received 0 ≡ of shard_record.posted 0

-- Letters were posted and taken, or none: nothing else changed.
pub record HasHanded (before after : ShardRecord) : Type 0 where
  pub rows : after.rows ≡ before.rows
  pub waiting : after.waiting ≡ before.waiting
  pub visits : after.visits ≡ before.visits
  pub pruned : after.pruned ≡ before.pruned
  pub held : after.held ≡ before.held

-- Where memory ran out, what the record received begins what it posted.
pub record Stops {A B : Type 0} (p : Pass) (s : Shard A B) : Type 0 where
  pub shard_record : ShardRecord
  pub alone : p.shards ≡ 1
  pub ends : EndsAs p s shard_record
  pub begun : IsPrefix (of shard_record.received 0) (of shard_record.posted 0)

-- ---- the shard with its seat

-- The shard goes on, and its seat knows what the record says. The board's limit is small.
pub record Acts {A B : Type 0} (p : Pass) (board : BoardFacts) (budget : ℕ) (s : Shard A B) (seat : SeatFacts) : Type 0 where
  pub goes : Goes p s
  pub first : s.me ≡ 0
  pub on_board : IsSeatOf board seat
  pub small : board.limit ≤ 2 ^ 40
  pub sits : Sits p budget seat.view goes.shard_record

-- The shard rests between two steps: it took all that it can hand out.
pub record Rests {A B : Type 0} (p : Pass) (board : BoardFacts) (budget : ℕ) (s : Shard A B) (seat : SeatFacts) : Type 0 where
  pub acts : Acts p board budget s seat
  pub quiet : IsQuiet p 0 acts.goes.shard_record

-- The shard has ended, and its seat knows what the record says.
pub record Leaves {A B : Type 0} (p : Pass) (board : BoardFacts) (end : Ended) (s : Shard A B) (seat : SeatFacts) : Type 0 where
  pub stops : Stops p s
  pub first : s.me ≡ 0
  pub on_board : IsSeatOf board seat
  pub sat : Sat p 0 end seat.view stops.shard_record

-- ---- better solutions

-- a cost that is told is that of what is held
abbrev pub IsHeldCost : Option Held → Option ℤ → Type 0
IsHeldCost held None = Unit {0}
IsHeldCost held (Some cost) = (h : Held) × (held ≡ Some h) × (h.cost ≡ cost)

-- What was known of costs is known still, and of the cost of a better solution too. Such a cost takes a visit.
pub record HasFound (p : Pass) (before after : ShardRecord) (better : Option ℤ) : Type 0 where
  pub called : (costs : List ℤ) → AreCalled p 0 before costs → AreCalled p 0 after (costs ++ option_to_list better)
  pub few : length before.visits + length (option_to_list better) ≤ length after.visits

-- the shard goes on after something that it did, or has ended
abbrev pub GoesOnFrom : {A B : Type 0} → Pass → BoardFacts → (budget : ℕ) → ShardRecord → (better : Option ℤ) → Shard A B → SeatFacts → Type 0
GoesOnFrom p board budget before better s seat = (b : Acts p board budget s seat) × HasFound p before b.goes.shard_record better

abbrev pub RestsFrom : {A B : Type 0} → Pass → BoardFacts → (budget : ℕ) → ShardRecord → (better : Option ℤ) → Shard A B → SeatFacts → Type 0
RestsFrom p board budget before better s seat = (b : Rests p board budget s seat) × HasFound p before b.acts.goes.shard_record better

abbrev pub EndsFrom : {A B : Type 0} → Pass → BoardFacts → ShardRecord → Ended → Shard A B → SeatFacts → Type 0
EndsFrom p board before end s seat = (l : Leaves p board end s seat) × HasFound p before l.stops.shard_record None

-- Costs that are known by the record were looked at after this last one, by a sink that was `before`. No more were announced than
-- nodes were visited, which the budget bounds.
pub record Tells (p : Pass) (minimize : Bool) (last : Option ℤ) (before after : Option (List ℕ)) (faults_before faults_after : ℕ) (told : Told) (r : ShardRecord) : Type 0 where
  pub costs : List ℤ
  pub known : AreCalled p 0 r costs
  pub looked : IsTold minimize last costs before after faults_before faults_after told
  pub few : told.count ≤ length r.visits
  pub small : told.count ≤ 2 ^ 40
