use Rattle.std.proofs.Common.{sym, ◌∙◌}
use Rattle.honest_preferences.proofs.Switching.{plus_less, plus_more}
use Rattle.honest_preferences.proofs.switches.weighs_down.Goals as goal

pub returns-then-minimize : goal.returns-then-minimize
returns-then-minimize c = λ yes.
    let low = c.falls_to.ensures yes in
    plus_less c.args.at.now.model.now c.args.at.now.kept.now c.args.at.now.ends.now c.args.e.now low.0 (sym c.join.ensures ∙ c.in-Plus.is) (sym c.minimize.ensures ∙ c.if-minimize.true) low.1 low.2

pub returns-else-minimize : goal.returns-else-minimize
returns-else-minimize c = λ yes.
    let high = c.rises_to.ensures yes in
    plus_more c.args.at.now.model.now c.args.at.now.kept.now c.args.at.now.ends.now c.args.e.now high.0 (sym c.join.ensures ∙ c.in-Plus.is) (sym c.minimize.ensures ∙ c.if-minimize.false) high.1 high.2
