use Rattle.std.proofs.Common.{◌≡◌, ◌≤◌, ℤ, List, Some, length, of_z, slice_get, subst, to_z, w64, ◌∙◌}
use Rattle.std.proofs.lemmas.Int.{to_z-of_z}
use Rattle.dp_model.specs.declared.parts.Effect.{Effect}
use Rattle.honest_preferences.specs.Switches.{AllSetUpTo, SetsUpTo}
use Rattle.honest_preferences.proofs.Places.{all_below, item_at, one_further}
use Rattle.honest_preferences.proofs.switches.all_set_up_to.Goals as goal

pub loop-effect-preserved : goal.loop-effect-preserved
loop-effect-preserved c =
    let i = c.loop-effect.effect-index in
    let x = c.effect-item.result in
    let same = c.deref-effect-items.ensures.value ∙ c.list.ensures in
    let here = subst (λ (xs : List Effect). slice_get xs i ≡ Some x) same (item_at c.deref-effect-items.result.now i x c.loop-effect-test.true c.effect-item.is) in
    one_further (SetsUpTo c.args.at.now.model.now c.args.at.now.kept.now c.args.at.now.ends.now c.args.v (to_z w64 (of_z w64 c.args.limit))) c.args.effects.now i x here (c.sets_up_to.ensures c.if-not-sets_up_to.false) c.loop-effect.invariant

pub returns : goal.returns
returns c = λ yes.
    let same = c.deref-effect-items.ensures.value ∙ c.list.ensures in
    let past = subst (λ (xs : List Effect). length xs ≤ c.loop-effect.effect-index) same c.loop-effect-test.false in
    let all = all_below (SetsUpTo c.args.at.now.model.now c.args.at.now.kept.now c.args.at.now.ends.now c.args.v (to_z w64 (of_z w64 c.args.limit))) c.args.effects.now c.loop-effect.effect-index past c.loop-effect.invariant in
    subst (λ (z : ℤ). AllSetUpTo c.args.at.now.model.now c.args.at.now.kept.now c.args.at.now.ends.now c.args.v z c.args.effects.now) (to_z-of_z w64 c.args.limit c.ranges.limit) all
