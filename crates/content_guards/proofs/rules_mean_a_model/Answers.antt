use Rattle.content_guards.proofs.Depot.{depot_law}
use Rattle.content_guards.proofs.rules_mean_a_model.Goals as goal

pub returns : goal.returns
returns c = λ read at is. depot_law read at is
