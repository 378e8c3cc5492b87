-- Between two steps the shard rests, and each cost that was told was looked at.
use Rattle.std.proofs.Common.{ℕ, List, Option, ℤ}
use Rattle.pass_ledger.specs.Passes.{Pass}
use Rattle.shard_core.specs.Stands.{Suited}
use Rattle.pass_alone.specs.Alone.{Rests, Tells}
use Rattle.pass_alone.proofs.telling.make_steps_and_look.Given as goal

abbrev pub invariant-steps : goal.invariant-steps
invariant-steps g l = record {
  asked : (p : Pass) × Suited p g.L.CostLaw.minimize g.L.CostLaw.operator g.K.Covers.prune g.K.Covers.minimize g.K.Covers.operator × (a : Rests p l.board l.budget l.shard l.seat) × (last : Option ℤ) × (before : Option (List ℕ)) × (faults : ℕ)
      × Tells p l.minimize last before (g.S.Sink.taken l.out) faults (g.S.Sink.faults l.out) l.told a.acts.goes.shard_record;
  goes_on : (p : Pass) → Suited p g.L.CostLaw.minimize g.L.CostLaw.operator g.K.Covers.prune g.K.Covers.minimize g.K.Covers.operator → (a : Rests p l.board l.budget l.fn.shard l.fn.seat) → (last : Option ℤ) (before : Option (List ℕ)) (faults : ℕ)
      → Tells p l.minimize last before (g.S.Sink.taken l.fn.out) faults (g.S.Sink.faults l.fn.out) l.fn.told a.acts.goes.shard_record
      → (b : Rests p l.board l.budget l.shard l.seat) × Tells p l.minimize last before (g.S.Sink.taken l.out) faults (g.S.Sink.faults l.out) l.told b.acts.goes.shard_record;
}
