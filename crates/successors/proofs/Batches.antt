-- What a batch is made of is in order.
use Rattle.std.proofs.Common.{zero, suc, [], ◌∷◌, ◌++◌, arith}
use Rattle.std.specs.List.{All}
use Rattle.std.proofs.lemmas.List.Elements.{All-append}
use Rattle.dp_model.specs.Costs.{InRange}
use Rattle.dp_model.specs.declared.whole.Model.{Model}
use Rattle.state_layout.specs.Conditions.{IsNodeOf}
use Rattle.successors.specs.Batches.{BatchFits, empty_batch}
use Rattle.successors.specs.declared.batch.Batch.{Batch}
use Rattle.successors.specs.declared.batch.Offer.{Offer}

none : {X : Type 0} (P : X → Type 0) → All P []
none P k d h = absurd (omega arith)

single : {X : Type 0} (P : X → Type 0) (x : X) → P x → All P (x ∷ [])
single P x p zero d h = p
single P x p (suc k) d h = absurd (omega arith)

pub empty_fits : (m : Model) → BatchFits m empty_batch
empty_fits m = record { letters = none (IsNodeOf m); pruned = none (IsNodeOf m); offers = none (λ (offer : Offer). InRange offer.cost) }

pub offered : (m : Model) (batch : Batch) (offer : Offer) → BatchFits m batch → InRange offer.cost → BatchFits m (record batch { offers = batch.offers ++ offer ∷ [] })
offered m batch offer fits range = record {
  letters = fits.letters;
  pruned = fits.pruned;
  offers = All-append (λ (offer : Offer). InRange offer.cost) batch.offers (offer ∷ []) fits.offers (single (λ (offer : Offer). InRange offer.cost) offer range);
}
