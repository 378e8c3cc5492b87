use Rattle.std.proofs.Common.{sym, ◌∙◌}
use Rattle.honest_preferences.proofs.Moving.{weight_some}
use Rattle.honest_preferences.proofs.effects.is_weight_answered.Goals as goal

pub returns-in-Some : goal.returns-in-Some
returns-in-Some c = λ yes. weight_some c.args.at.now.model.now c.args.at.now.kept.now c.args.at.now.ends.now c.args.t.now c.in-Some.e (sym c.weight.ensures ∙ c.in-Some.is) (c.costs_no_more.ensures yes)
