use Rattle.std.proofs.Common.{sym, ◌∙◌}
use Rattle.honest_preferences.proofs.Moving.{costs_greater, costs_less}
use Rattle.honest_preferences.proofs.effects.costs_no_more.Goals as goal

pub returns-then-minimize : goal.returns-then-minimize
returns-then-minimize c = λ yes. costs_less c.args.at.now.model.now c.args.at.now.kept.now c.args.at.now.ends.now c.args.e.now (sym c.minimize.ensures ∙ c.if-minimize.true) (c.is_no_greater.ensures yes)

pub returns-else-minimize : goal.returns-else-minimize
returns-else-minimize c = λ yes. costs_greater c.args.at.now.model.now c.args.at.now.kept.now c.args.at.now.ends.now c.args.e.now (sym c.minimize.ensures ∙ c.if-minimize.false) (c.is_no_less.ensures yes)
