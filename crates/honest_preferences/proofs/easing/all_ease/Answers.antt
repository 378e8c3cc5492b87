use Rattle.std.proofs.Common.{rules, ◌≡◌, ◌≤◌, List, Some, IsTrue, length, slice_get, subst, ◌∙◌}
use Rattle.dp_model.specs.declared.trees.Cond.{Cond}
use Rattle.honest_preferences.specs.Signs.{Eases}
use Rattle.honest_preferences.proofs.Conditions.{all_eased}
use Rattle.honest_preferences.proofs.Places.{all_below, item_at, one_further}
use Rattle.honest_preferences.proofs.easing.all_ease.Goals as goal

pub loop-condition-preserved : goal.loop-condition-preserved
loop-condition-preserved c =
    let i = c.loop-condition.condition-index in
    let x = c.condition-item.result in
    let yes : IsTrue c.eases.result = search rules in
    let here = subst (λ (xs : List Cond). slice_get xs i ≡ Some x) (c.deref-condition-items.ensures.value ∙ c.list.ensures) (item_at c.deref-condition-items.result.now i x c.loop-condition-test.true c.condition-item.is) in
    one_further (λ (y : Cond). Eases c.args.at.now.model.now c.args.at.now.kept.now c.args.at.now.ends.now y) c.args.conditions.now i x here (c.eases.ensures yes) c.loop-condition.invariant

pub returns : goal.returns
returns c = λ _.
    let past = subst (λ (xs : List Cond). length xs ≤ c.loop-condition.condition-index) (c.deref-condition-items.ensures.value ∙ c.list.ensures) c.loop-condition-test.false in
    all_eased c.args.at.now.model.now c.args.at.now.kept.now c.args.at.now.ends.now c.args.conditions.now (all_below (λ (y : Cond). Eases c.args.at.now.model.now c.args.at.now.kept.now c.args.at.now.ends.now y) c.args.conditions.now c.loop-condition.condition-index past c.loop-condition.invariant)
