use Rattle.std.proofs.Common.{◌≡◌, true, ℤ, List, map, sym, subst, w64, ◌∙◌}
use Rattle.std.proofs.lemmas.Int.{to_z-of_z}
use Rattle.dp_model.specs.declared.trees.Over.{Over}
use Rattle.honest_preferences.specs.Effects.{AnswersEffects}
use Rattle.honest_preferences.specs.Leaving.{all_leave, over_leaves}
use Rattle.honest_preferences.specs.Switches.{AllEaseAt, AllSetUpTo}
use Rattle.honest_preferences.proofs.switches.raises_to.Goals as goal

pub returns : goal.returns
returns c = λ yes.
    let sets = subst (AllSetUpTo c.args.at.now.model.now c.args.at.now.kept.now c.args.at.now.ends.now c.args.v c.args.limit) c.effects-2.ensures (subst (λ (z : ℤ). AllSetUpTo c.args.at.now.model.now c.args.at.now.kept.now c.args.at.now.ends.now c.args.v z c.effects-2.result.now) (to_z-of_z w64 c.args.limit c.ranges.limit) (c.all_set_up_to.ensures c.if-not-all_set_up_to.false)) in
    record {
      params = subst (λ (ps : List Over). all_leave (map (over_leaves c.args.at.now.kept.now) ps) ≡ true) c.params.ensures (sym c.params_leave.ensures ∙ c.if-not-params_leave.false);
      conditions = subst (AllEaseAt c.args.at.now.model.now c.args.at.now.kept.now c.args.at.now.ends.now c.args.v) c.preconditions.ensures (c.all_ease_at.ensures c.if-not-all_ease_at.false);
      effects = subst (AnswersEffects c.args.at.now.model.now c.args.at.now.kept.now c.args.at.now.ends.now) c.effects.ensures (c.are_effects_answered.ensures c.if-not-are_effects_answered.false);
      weight = c.is_weight_answered.ensures c.if-not-is_weight_answered.false;
      sets = sets;
      free = c.is_free_to_leave.ensures yes;
    }
