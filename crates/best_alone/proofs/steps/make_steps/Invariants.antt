-- Between two steps the shard goes on.
use Rattle.pass_ledger.specs.Passes.{Pass}
use Rattle.shard_core.specs.Stands.{Suited}
use Rattle.best_alone.specs.Alone.{Acts}
use Rattle.best_alone.proofs.steps.make_steps.Given as goal

abbrev pub invariant-steps : goal.invariant-steps
invariant-steps g l = record {
  asked : (p : Pass) × Suited p g.L.CostLaw.minimize g.L.CostLaw.operator g.K.Covers.prune g.K.Covers.minimize g.K.Covers.operator × Acts p l.board l.budget l.shard l.seat;
  goes_on : (p : Pass) → Suited p g.L.CostLaw.minimize g.L.CostLaw.operator g.K.Covers.prune g.K.Covers.minimize g.K.Covers.operator → Acts p l.board l.budget l.fn.shard l.fn.seat → Acts p l.board l.budget l.shard l.seat;
}
