-- The shard goes on, and all letters that it handed out are taken. Fewer nodes wait with each visit.
use Rattle.std.proofs.Common.{ℕ, List, length}
use Rattle.cert_types.specs.declared.nodes.CertNode.{CertNode}
use Rattle.pass_ledger.specs.Passes.{Pass}
use Rattle.shard_core.specs.Calls.{IsQuiet}
use Rattle.shard_core.specs.Stands.{Suited}
use Rattle.cert_making.specs.Makes.{Makes}
use Rattle.cert_making.proofs.visits.visit_layer.Given as goal

abbrev pub invariant-nodes : goal.invariant-nodes
invariant-nodes g l = record {
  asked : (p : Pass) × (layers : List (List CertNode)) × (first : ℕ) × Suited p g.L.CostLaw.minimize g.L.CostLaw.operator g.K.Covers.prune g.K.Covers.minimize g.K.Covers.operator × Makes p l.claimed l.budget l.shard layers first;
  goes_on : (p : Pass) (layers : List (List CertNode)) (first : ℕ) → Suited p g.L.CostLaw.minimize g.L.CostLaw.operator g.K.Covers.prune g.K.Covers.minimize g.K.Covers.operator → Makes p l.claimed l.budget l.fn.shard layers first
      → (b : Makes p l.claimed l.budget l.shard layers first) × IsQuiet p 0 b.shard_record;
}

abbrev pub decreases-nodes : goal.decreases-nodes
decreases-nodes g l = length l.shard.waiting.items
