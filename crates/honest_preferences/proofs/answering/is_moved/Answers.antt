use Rattle.std.proofs.Common.{◌≡◌, true, List, map, sym, subst, ◌∙◌}
use Rattle.dp_model.specs.declared.trees.Over.{Over}
use Rattle.honest_preferences.specs.Answering.{AllEase}
use Rattle.honest_preferences.specs.Effects.{AnswersEffects}
use Rattle.honest_preferences.specs.Leaving.{all_leave, over_leaves}
use Rattle.honest_preferences.proofs.Moving.{moves}
use Rattle.honest_preferences.proofs.answering.is_moved.Goals as goal

pub returns : goal.returns
returns c = λ yes.
    let params = subst (λ (ps : List Over). all_leave (map (over_leaves c.args.at.now.kept.now) ps) ≡ true) c.params.ensures (sym c.params_leave.ensures ∙ c.if-not-params_leave.false) in
    let ease = subst (AllEase c.args.at.now.model.now c.args.at.now.kept.now c.args.at.now.ends.now) c.preconditions.ensures (c.all_ease.ensures c.if-not-all_ease.false) in
    let effects = subst (AnswersEffects c.args.at.now.model.now c.args.at.now.kept.now c.args.at.now.ends.now) c.effects.ensures (c.are_effects_answered.ensures c.if-not-are_effects_answered.false) in
    moves c.args.at.now.model.now c.args.at.now.kept.now c.args.at.now.ends.now c.args.t.now params ease effects (c.is_weight_answered.ensures yes)
