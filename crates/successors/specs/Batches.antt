-- Batches of successors.
use Rattle.std.specs.Prelude.{[]}
use Rattle.std.specs.List.{All}
use Rattle.dp_model.specs.Costs.{InRange}
use Rattle.dp_model.specs.declared.whole.Model.{Model}
use Rattle.state_layout.specs.Conditions.{IsNodeOf}
use Rattle.successors.specs.declared.batch.Batch.{Batch}
use Rattle.successors.specs.declared.batch.Offer.{Offer}

abbrev pub empty_batch : Batch
empty_batch = record { letters = []; offers = []; pruned = []; not_allowed = 0 }

-- Each node of a batch is in order: its state is a packed state of the model, its cost so far is in range, and its floor,
-- if it has one, has an order word. The cost of each offer is in range.
pub record BatchFits (m : Model) (batch : Batch) : Type 0 where
  pub letters : All (IsNodeOf m) batch.letters
  pub pruned : All (IsNodeOf m) batch.pruned
  pub offers : All (λ (offer : Offer). InRange offer.cost) batch.offers
