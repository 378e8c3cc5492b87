use Rattle.std.proofs.Common.{◌≡◌, List, Some, slice_get, subst, ◌∙◌}
use Rattle.dp_model.specs.declared.trees.Cond.{Cond}
use Rattle.honest_preferences.proofs.Places.{item_at}
use Rattle.honest_preferences.proofs.switches.switch_among.Goals as goal

pub returns-in-Some : goal.returns-in-Some
returns-in-Some c =
    let i = c.loop-c.c-index in
    let x = c.c-item.result in
    let same = c.deref-c-items.ensures.value ∙ c.list.ensures in
    let here = subst (λ (xs : List Cond). slice_get xs i ≡ Some x) same (item_at c.deref-c-items.result.now i x c.loop-c-test.true c.c-item.is) in
    (i, x, here, c.in-Some.ensures)
