use Rattle.std.proofs.Common.{sym, ◌∙◌}
use Rattle.dom_store.proofs.places.is_to_go.Goals as goal

pub returns : goal.returns
returns g c = λ _. sym c.is_covered_at.ensures.value ∙ c.if-is_covered_at.false
