-- What is asked holds before each letter, and the shard goes on after those that it took.
use Rattle.std.proofs.Common.{ℕ}
use Rattle.pass_ledger.specs.Passes.{Pass}
use Rattle.shard_core.specs.Stands.{Suited}
use Rattle.best_alone.specs.Alone.{Acts}
use Rattle.best_alone.proofs.letters.take_letters.Given as goal

abbrev pub invariant-letters : goal.invariant-letters
invariant-letters g l = record {
  asked : (p : Pass) × (budget : ℕ) × Suited p g.L.CostLaw.minimize g.L.CostLaw.operator g.K.Covers.prune g.K.Covers.minimize g.K.Covers.operator × Acts p l.board budget l.shard l.seat;
  goes_on : (p : Pass) (budget : ℕ) → Suited p g.L.CostLaw.minimize g.L.CostLaw.operator g.K.Covers.prune g.K.Covers.minimize g.K.Covers.operator → Acts p l.board budget l.fn.shard l.fn.seat → Acts p l.board budget l.shard l.seat;
}
