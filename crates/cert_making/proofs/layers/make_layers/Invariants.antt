use Rattle.std.proofs.Common.{◌≡◌, ◌≤◌, ℕ, List, Option}
use Rattle.dp_model.specs.declared.answers.Claim.{Claim}
use Rattle.dp_model.specs.declared.answers.Options.{Options}
use Rattle.pass_ledger.specs.Passes.{Pass}
use Rattle.shard_core.specs.Stands.{Suited}
use Rattle.cert_making.specs.Makes.{Works}
use Rattle.cert_making.proofs.layers.make_layers.Given as goal

-- The layers so far are written, and the shard is ready to close the next one.
abbrev pub invariant-layers : goal.invariant-layers
invariant-layers g l = record {
  asked : (p : Pass) × (options : Options) × (claim : Claim) × (before : Option (List ℕ)) × Suited p g.L.CostLaw.minimize g.L.CostLaw.operator g.K.Covers.prune g.K.Covers.minimize g.K.Covers.operator × (p.model ≡ l.model) × Works p options claim l.claimed l.budget l.shard before (g.S.Sink.taken l.out) l.progress;
  goes_on : (p : Pass) (options : Options) (claim : Claim) (before : Option (List ℕ)) → Suited p g.L.CostLaw.minimize g.L.CostLaw.operator g.K.Covers.prune g.K.Covers.minimize g.K.Covers.operator → p.model ≡ l.model
      → Works p options claim l.claimed l.budget l.fn.shard before (g.S.Sink.taken l.fn.out) l.fn.progress → Works p options claim l.claimed l.budget l.shard before (g.S.Sink.taken l.out) l.progress;
  count : g.S.Sink.faults l.fn.out ≤ g.S.Sink.faults l.out;
}
