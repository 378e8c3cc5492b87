-- What ties the records of a pass to the logs of steps that its shards keep.
use Rattle.std.specs.Prelude.{◌≡◌, ℕ, ◌<◌, List, map, length, slice_get, Some}
use Rattle.path_log.specs.Paths as paths
use Rattle.path_log.specs.Paths.{Log}
use Rattle.path_log.specs.declared.logs.Entry.{Entry}
use Rattle.path_log.specs.declared.logs.StepId.{StepId}
use Rattle.pass_ledger.specs.Passes.{Pass}
use Rattle.pass_ledger.specs.Records.{record_of, visit_at, LeadsBack}
use Rattle.pass_ledger.specs.declared.records.Visit.{Visit}
use Rattle.pass_ledger.specs.declared.records.ShardRecord.{ShardRecord}

abbrev pub entry_of : Visit → Entry
entry_of v = record { parent = v.node.parent; transition = v.node.transition }

-- each shard's log has its visited nodes, in order
abbrev pub AreLogs : List ShardRecord → List Log → Type 0
AreLogs records logs = (i : ℕ) → i < length records → (log : Log) × (slice_get logs i ≡ Some log) × (log.entries ≡ map entry_of (record_of records i).visits)

-- where the parents of a visited node lead back to the target in the records, they do so in the logs
abbrev pub LawLogs : Type 0
LawLogs =
    (p : Pass) (records : List ShardRecord) (logs : List Log) → AreLogs records logs
    → (id : StepId) (v : Visit) (back : List ℕ) → visit_at records id ≡ Some v → LeadsBack p records v.node back → paths.LeadsBack logs id back
