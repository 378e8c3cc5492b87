use Rattle.std.proofs.Common.{sym, ◌∙◌}
use Rattle.honest_preferences.proofs.Moving.{number_greater, number_less}
use Rattle.honest_preferences.proofs.effects.sets_no_worse.Goals as goal

pub returns-then-prefers_less : goal.returns-then-prefers_less
returns-then-prefers_less c = λ yes.
    let x = c.prefers_less.ensures c.if-prefers_less.true in
    number_less c.args.at.now.model.now c.args.at.now.kept.now c.args.at.now.ends.now c.args.v c.args.e.now x.0 (sym c.is_kept.ensures ∙ c.if-not-is_kept.false) (c.is_integer.ensures c.if-not-is_integer.false) x.1 x.2 (c.is_no_greater.ensures yes)

pub returns-then-prefers_greater : goal.returns-then-prefers_greater
returns-then-prefers_greater c = λ yes.
    let x = c.prefers_greater.ensures c.if-prefers_greater.true in
    number_greater c.args.at.now.model.now c.args.at.now.kept.now c.args.at.now.ends.now c.args.v c.args.e.now x.0 (sym c.is_kept.ensures ∙ c.if-not-is_kept.false) (c.is_integer.ensures c.if-not-is_integer.false) x.1 x.2 (c.is_no_less.ensures yes)
