use Rattle.std.proofs.Common.{take}
use Rattle.std.specs.Prelude.{IfSome}
use Rattle.cost_laws.specs.Orders.{InWideRange}
use Rattle.pass_ledger.specs.declared.records.Held.{Held}
use Rattle.best_ends.specs.Left.{IsBestHeld}
use Rattle.best_ends.proofs.bests.best_held.Given as goal

abbrev pub invariant-loop-end : goal.invariant-loop-end
invariant-loop-end g l = record {
  best : IsBestHeld g.L.CostLaw.minimize g.L.CostLaw.operator (take l.end-index l.ends) l.best;
  wide : IfSome l.best (λ (h : Held). InWideRange h.cost);
}
