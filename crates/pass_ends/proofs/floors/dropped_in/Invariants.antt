use Rattle.std.proofs.Common.{◌≡◌, List, length}
use Rattle.cost_laws.specs.Orders.{IsLawOf}
use Rattle.dom_store.specs.Order.{IsLeastFloor}
use Rattle.path_log.specs.Paths.{Log}
use Rattle.pass_ledger.specs.Passes.{Pass}
use Rattle.pass_ledger.specs.declared.records.ShardRecord.{ShardRecord}
use Rattle.pass_ends.specs.Ends.{dropped_of}
use Rattle.pass_ends.specs.Left.{AreEnds}
use Rattle.pass_ends.proofs.floors.dropped_in.Given as goal

abbrev pub invariant-loop-end : goal.invariant-loop-end
invariant-loop-end g l =
    (p : Pass) (records : List ShardRecord) (logs : List Log) → IsLawOf p.model g.L.CostLaw.minimize g.L.CostLaw.operator → AreEnds p records l.ends logs
    → (l.dropped.count ≡ length (dropped_of records l.end-index)) × IsLeastFloor p.model.minimize p.model.join (dropped_of records l.end-index) l.dropped.least_floor
