use Rattle.std.proofs.Common.{◌≡◌, ◌≤◌, List, Some, length, slice_get, subst, ◌∙◌}
use Rattle.dp_model.specs.declared.parts.Transition.{Transition}
use Rattle.honest_preferences.specs.Parts.{IsFollowed}
use Rattle.honest_preferences.proofs.Places.{all_below, item_at, one_further}
use Rattle.honest_preferences.proofs.simulating.all_are_followed.Goals as goal

pub loop-t-preserved : goal.loop-t-preserved
loop-t-preserved c =
    let i = c.loop-t.t-index in
    let t = c.t-item.result in
    let same = c.deref-t-items.ensures.value ∙ c.list.ensures ∙ c.transitions.ensures in
    let here = subst (λ (xs : List Transition). slice_get xs i ≡ Some t) same (item_at c.deref-t-items.result.now i t c.loop-t-test.true c.t-item.is) in
    one_further (IsFollowed c.args.at.now.model.now c.args.at.now.kept.now c.args.at.now.ends.now) c.args.at.now.model.now.transitions i t here (c.is_followed.ensures c.if-not-is_followed.false) c.loop-t.invariant

pub returns : goal.returns
returns c = λ _.
    let same = c.deref-t-items.ensures.value ∙ c.list.ensures ∙ c.transitions.ensures in
    let past = subst (λ (xs : List Transition). length xs ≤ c.loop-t.t-index) same c.loop-t-test.false in
    all_below (IsFollowed c.args.at.now.model.now c.args.at.now.kept.now c.args.at.now.ends.now) c.args.at.now.model.now.transitions c.loop-t.t-index past c.loop-t.invariant
