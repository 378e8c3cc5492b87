use Rattle.std.proofs.Common.{sym, ◌∙◌}
use Rattle.honest_preferences.proofs.Numbers.{no_less_same, no_less_rises}
use Rattle.honest_preferences.proofs.signs.is_no_less.Goals as goal

pub returns-then-leaves_num : goal.returns-then-leaves_num
returns-then-leaves_num c = λ yes. no_less_same c.args.at.now.model.now c.args.at.now.kept.now c.args.at.now.ends.now c.args.e.now (sym c.leaves_num.ensures ∙ c.if-leaves_num.true)

pub returns-in-Some : goal.returns-in-Some
returns-in-Some c = λ yes. no_less_rises c.args.at.now.model.now c.args.at.now.kept.now c.args.at.now.ends.now c.args.e.now c.in-Some.field-0 c.in-Some.ensures
