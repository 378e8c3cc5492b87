use Rattle.std.proofs.Common.{sym, subst, ◌∙◌}
use Rattle.honest_preferences.specs.Effects.{AnswersEffect}
use Rattle.honest_preferences.proofs.Moving.{members_same, number_same}
use Rattle.honest_preferences.proofs.effects.is_effect_answered.Goals as goal

pub returns-then-leaves_num : goal.returns-then-leaves_num
returns-then-leaves_num c = λ yes. subst (AnswersEffect c.args.at.now.model.now c.args.at.now.kept.now c.args.at.now.ends.now) (sym c.in-Number.is) (number_same c.args.at.now.model.now c.args.at.now.kept.now c.args.at.now.ends.now c.in-Number.v c.in-Number.e (sym c.leaves_num.ensures ∙ c.if-leaves_num.true))

pub returns-else-leaves_num : goal.returns-else-leaves_num
returns-else-leaves_num c = λ yes. subst (AnswersEffect c.args.at.now.model.now c.args.at.now.kept.now c.args.at.now.ends.now) (sym c.in-Number.is) (c.sets_no_worse.ensures yes)

pub returns-in-Members : goal.returns-in-Members
returns-in-Members c = λ yes. subst (AnswersEffect c.args.at.now.model.now c.args.at.now.kept.now c.args.at.now.ends.now) (sym c.in-Members.is) (members_same c.args.at.now.model.now c.args.at.now.kept.now c.args.at.now.ends.now c.in-Members.field-0 c.in-Members.e (sym c.leaves_set.ensures ∙ yes))
