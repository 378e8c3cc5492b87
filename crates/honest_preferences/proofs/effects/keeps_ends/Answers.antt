use Rattle.std.proofs.Common.{◌≡◌, ◌≤◌, List, Some, length, slice_get, subst, ◌∙◌}
use Rattle.dp_model.specs.declared.parts.Effect.{Effect}
use Rattle.honest_preferences.specs.Effects.{StaysWithin}
use Rattle.honest_preferences.proofs.Moving.{keeps}
use Rattle.honest_preferences.proofs.Places.{all_below, item_at, one_further}
use Rattle.honest_preferences.proofs.effects.keeps_ends.Goals as goal

pub loop-effect-preserved : goal.loop-effect-preserved
loop-effect-preserved c =
    let i = c.loop-effect.effect-index in
    let x = c.effect-item.result in
    let same = c.deref-effect-items.ensures.value ∙ c.list.ensures ∙ c.effects.ensures in
    let here = subst (λ (xs : List Effect). slice_get xs i ≡ Some x) same (item_at c.deref-effect-items.result.now i x c.loop-effect-test.true c.effect-item.is) in
    one_further (StaysWithin c.args.at.now.model.now c.args.at.now.kept.now c.args.at.now.ends.now) c.args.t.now.effects i x here (c.stays_within.ensures c.if-not-stays_within.false) c.loop-effect.invariant

pub returns : goal.returns
returns c = λ yes.
    let same = c.deref-effect-items.ensures.value ∙ c.list.ensures ∙ c.effects.ensures in
    let past = subst (λ (xs : List Effect). length xs ≤ c.loop-effect.effect-index) same c.loop-effect-test.false in
    keeps c.args.at.now.model.now c.args.at.now.kept.now c.args.at.now.ends.now c.args.t.now (all_below (StaysWithin c.args.at.now.model.now c.args.at.now.kept.now c.args.at.now.ends.now) c.args.t.now.effects c.loop-effect.effect-index past c.loop-effect.invariant)
