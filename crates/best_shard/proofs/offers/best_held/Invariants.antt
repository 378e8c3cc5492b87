use Rattle.std.proofs.Common.{◌≡◌, drop}
use Rattle.std.specs.Prelude.{IfSome}
use Rattle.dp_model.specs.Costs.{InRange}
use Rattle.pass_ledger.specs.declared.records.Held.{Held}
use Rattle.shard_core.specs.Offers.{best_held}
use Rattle.best_shard.proofs.offers.best_held.Given as goal

-- what is left decides
abbrev pub invariant-loop-offer : goal.invariant-loop-offer
invariant-loop-offer g l = record {
  held : best_held g.L.CostLaw.minimize g.L.CostLaw.operator l.id l.best (drop l.offer-index l.offers) ≡ best_held g.L.CostLaw.minimize g.L.CostLaw.operator l.id l.fn.held l.offers;
  range : IfSome l.best (λ (h : Held). InRange h.cost);
}
