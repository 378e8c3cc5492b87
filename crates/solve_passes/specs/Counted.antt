-- What the counts of a pass count: the visits and the dropped nodes in records of its shards.
use Rattle.std.specs.Prelude.{◌≡◌, ℕ, ◌+◌, ◌^◌, ◌<◌, ◌≤◌, ◌⊎◌, List, length, slice_get, Option, Some, IfSome}
use Rattle.cost_laws.specs.Orders.{InWideRange}
use Rattle.dp_model.specs.declared.answers.Options.{Options}
use Rattle.dp_model.specs.declared.answers.Verdict.TheVariants as verdicts
use Rattle.dp_model.specs.declared.whole.Model.{Model}
use Rattle.pass_ends.specs.Ends.{dropped_of}
use Rattle.pass_ends.specs.Passes.{pass_of}
use Rattle.pass_ledger.specs.Counts.{visits_of}
use Rattle.pass_ledger.specs.Ledgers.{Ledger, Closed}
use Rattle.pass_ledger.specs.Records.{Together}
use Rattle.pass_ledger.specs.declared.records.ShardRecord.{ShardRecord}
use Rattle.pass_over.specs.Announcements.{HasRefused}
use Rattle.solve_passes.specs.Records.{Ended, Ending, OutOfMemory, Pass, Record}

-- There is a closed ledger of the pass, with a shard for each worker. The counts are the visits and the dropped nodes in it.
pub record CountsClosed (m : Model) (options : Options) (p : Pass) : Type 0 where
  pub some : 1 ≤ options.workers
  pub records : List ShardRecord
  pub opening : ℕ
  pub best : ℕ
  pub ledger : Ledger (pass_of m options p.share some) records
  pub closed : Closed (pass_of m options p.share some) records opening best
  pub visits : p.visited ≡ visits_of records options.workers
  pub drops : p.dropped ≡ length (dropped_of records options.workers)

-- There are records of the shards of the last pass of a run that ends so, done or not. The dropped nodes are those in them, and where
-- the run was stopped the visits are.
pub record CountsHalted (m : Model) (options : Options) (ending : Ending) (p : Pass) : Type 0 where
  pub some : 1 ≤ options.workers
  pub records : List ShardRecord
  pub long : length records ≡ options.workers
  pub together : Together (pass_of m options p.share some) records
  pub visits : (v : ℕ) → ending ≡ Ended (verdicts.Stopped v) → p.visited ≡ visits_of records options.workers
  pub drops : p.dropped ≡ length (dropped_of records options.workers)

-- numbers of 64 bits
abbrev pub IsWord : ℕ → Type 0
IsWord n = n < 2 ^ 64

-- what a pass that announces costs counts of calls that found no room
abbrev pub CountsRefused : Model → Options → Pass → Type 0
CountsRefused m options p = (some : 1 ≤ options.workers) → IfSome p.announced (λ a. HasRefused (pass_of m options p.share some) a.refused)

-- A run makes 57 passes at most. What a pass counts has 64 bits.
pub record HasWords (p : Pass) : Type 0 where
  pub number : p.number ≤ 57
  pub share : p.share ≤ 2 ^ 56
  pub dropped : IsWord p.dropped
  pub refused : IfSome p.announced (λ a. IsWord a.refused)

-- the last pass of a run that ends so was closed
abbrev pub Closes : Ending → Type 0
Closes (Ended (verdicts.Optimal cost)) = Unit {0}
Closes (Ended verdicts.Infeasible) = Unit {0}
Closes (Ended (verdicts.Stopped visits)) = ⊥
Closes (Ended (verdicts.Fault fault)) = ⊥
Closes (Ended (verdicts.Legal cost)) = ⊥
Closes (Ended (verdicts.Illegal done reason)) = ⊥
Closes OutOfMemory = ⊥

-- it was halted
abbrev pub Halts : Ending → Type 0
Halts (Ended (verdicts.Optimal cost)) = ⊥
Halts (Ended verdicts.Infeasible) = ⊥
Halts (Ended (verdicts.Stopped visits)) = Unit {0}
Halts (Ended (verdicts.Fault fault)) = Unit {0}
Halts (Ended (verdicts.Legal cost)) = ⊥
Halts (Ended (verdicts.Illegal done reason)) = ⊥
Halts OutOfMemory = ⊥

-- What the passes of a run count: each but the last was closed. Of the last one before want of memory it is said what it counts of refused
-- calls, and that its numbers have 64 bits too. So has the bound.
pub record IsCounted (m : Model) (options : Options) (r : Record) : Type 0 where
  pub closed : (k : ℕ) (p : Pass) → slice_get r.passes k ≡ Some p → (k + 1 < length r.passes) ⊎ Closes r.ending → CountsClosed m options p
  pub halted : (k : ℕ) (p : Pass) → slice_get r.passes k ≡ Some p → k + 1 ≡ length r.passes → Halts r.ending → CountsHalted m options r.ending p
  pub refused : (k : ℕ) (p : Pass) → slice_get r.passes k ≡ Some p → CountsRefused m options p
  pub words : (k : ℕ) (p : Pass) → slice_get r.passes k ≡ Some p → HasWords p
  pub bound : IfSome r.bound InWideRange
