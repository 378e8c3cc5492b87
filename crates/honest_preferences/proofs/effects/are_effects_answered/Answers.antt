use Rattle.std.proofs.Common.{◌≡◌, ◌≤◌, List, Some, length, slice_get, subst, ◌∙◌}
use Rattle.dp_model.specs.declared.parts.Effect.{Effect}
use Rattle.honest_preferences.specs.Effects.{AnswersEffect}
use Rattle.honest_preferences.proofs.Places.{all_below, item_at, one_further}
use Rattle.honest_preferences.proofs.effects.are_effects_answered.Goals as goal

pub loop-effect-preserved : goal.loop-effect-preserved
loop-effect-preserved c =
    let i = c.loop-effect.effect-index in
    let x = c.effect-item.result in
    let same = c.deref-effect-items.ensures.value ∙ c.list.ensures in
    let here = subst (λ (xs : List Effect). slice_get xs i ≡ Some x) same (item_at c.deref-effect-items.result.now i x c.loop-effect-test.true c.effect-item.is) in
    one_further (AnswersEffect c.args.at.now.model.now c.args.at.now.kept.now c.args.at.now.ends.now) c.args.effects.now i x here (c.is_effect_answered.ensures c.if-not-is_effect_answered.false) c.loop-effect.invariant

pub returns : goal.returns
returns c = λ yes.
    let same = c.deref-effect-items.ensures.value ∙ c.list.ensures in
    let past = subst (λ (xs : List Effect). length xs ≤ c.loop-effect.effect-index) same c.loop-effect-test.false in
    all_below (AnswersEffect c.args.at.now.model.now c.args.at.now.kept.now c.args.at.now.ends.now) c.args.effects.now c.loop-effect.effect-index past c.loop-effect.invariant
