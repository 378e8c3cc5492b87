-- What is asked holds before each letter, and the shard goes on after those that it took.
use Rattle.std.proofs.Common.{ℕ, List}
use Rattle.cert_types.specs.declared.nodes.CertNode.{CertNode}
use Rattle.pass_ledger.specs.Passes.{Pass}
use Rattle.shard_core.specs.Stands.{Suited}
use Rattle.cert_making.specs.Makes.{HasHanded, Makes}
use Rattle.cert_making.proofs.letters.hand_over.Given as goal

abbrev pub invariant-letters : goal.invariant-letters
invariant-letters g l = record {
  asked : (p : Pass) × (claimed : ℕ) × (budget : ℕ) × (layers : List (List CertNode)) × (first : ℕ) × Suited p g.L.CostLaw.minimize g.L.CostLaw.operator g.K.Covers.prune g.K.Covers.minimize g.K.Covers.operator × Makes p claimed budget l.shard layers first;
  goes_on : (p : Pass) (claimed budget : ℕ) (layers : List (List CertNode)) (first : ℕ) → Suited p g.L.CostLaw.minimize g.L.CostLaw.operator g.K.Covers.prune g.K.Covers.minimize g.K.Covers.operator → (a : Makes p claimed budget l.fn.shard layers first)
      → (b : Makes p claimed budget l.shard layers first) × HasHanded a.shard_record b.shard_record;
}
