use Rattle.std.proofs.Common.{sym, ◌∙◌}
use Rattle.honest_preferences.proofs.Numbers.{greater_held, not_kept_greater}
use Rattle.honest_preferences.proofs.signs.holds_no_less.Goals as goal

pub returns-then-is_kept : goal.returns-then-is_kept
returns-then-is_kept c = λ yes s other p. let x = c.prefers_greater.ensures yes in greater_held c.args.at.now.model.now c.args.at.now.kept.now c.args.at.now.ends.now c.args.v x.0 x.1 x.2 s other p

pub returns-else-is_kept : goal.returns-else-is_kept
returns-else-is_kept c = λ yes s other p. not_kept_greater c.args.at.now.model.now c.args.at.now.kept.now c.args.at.now.ends.now c.args.v (sym c.is_kept.ensures ∙ c.if-is_kept.false) s other p
