use Rattle.std.proofs.Common.{◌≡◌, ◌≤◌, List, Some, length, slice_get, subst, ◌∙◌}
use Rattle.dp_model.specs.declared.trees.Cond.{Cond}
use Rattle.honest_preferences.specs.Switches.{EasesAt}
use Rattle.honest_preferences.proofs.Places.{all_below, item_at, one_further}
use Rattle.honest_preferences.proofs.switches.all_ease_at.Goals as goal

pub loop-c-preserved : goal.loop-c-preserved
loop-c-preserved c =
    let i = c.loop-c.c-index in
    let x = c.c-item.result in
    let same = c.deref-c-items.ensures.value ∙ c.list.ensures in
    let here = subst (λ (xs : List Cond). slice_get xs i ≡ Some x) same (item_at c.deref-c-items.result.now i x c.loop-c-test.true c.c-item.is) in
    one_further (EasesAt c.args.at.now.model.now c.args.at.now.kept.now c.args.at.now.ends.now c.args.v) c.args.conditions.now i x here (c.eases_at.ensures c.if-not-eases_at.false) c.loop-c.invariant

pub returns : goal.returns
returns c = λ yes.
    let same = c.deref-c-items.ensures.value ∙ c.list.ensures in
    let past = subst (λ (xs : List Cond). length xs ≤ c.loop-c.c-index) same c.loop-c-test.false in
    all_below (EasesAt c.args.at.now.model.now c.args.at.now.kept.now c.args.at.now.ends.now c.args.v) c.args.conditions.now c.loop-c.c-index past c.loop-c.invariant
