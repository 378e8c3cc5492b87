use Rattle.std.proofs.Common.{◌≡◌, ℕ, ◌≤◌, List, Some, length, slice_get, subst, ◌∙◌}
use Rattle.dp_model.specs.declared.parts.BaseCase.{BaseCase}
use Rattle.honest_states.proofs.Lists.{all_below, item_at, one_further}
use Rattle.honest_bounds.specs.Steps.{EndsBy}
use Rattle.honest_bounds.proofs.bearing.ends_by_all.Goals as goal

pub loop-case-preserved : goal.loop-case-preserved
loop-case-preserved c =
    let i = c.loop-case.case-index in
    let case = c.case-item.result in
    let same = c.deref-case-items.ensures.value ∙ c.list.ensures ∙ c.base_cases.ensures in
    let here = subst (λ (xs : List BaseCase). slice_get xs i ≡ Some case) same (item_at c.deref-case-items.result.now i case c.loop-case-test.true c.case-item.is) in
    one_further (λ (k : ℕ) (b : BaseCase). EndsBy c.args.model.now c.args.mode.now c.args.ground c.args.e.now b) c.args.model.now.base_cases i case here (c.in_ok-ends_by.ensures c.if-not-branch.false) c.loop-case.invariant

pub returns : goal.returns
returns c = λ _.
    let same = c.deref-case-items.ensures.value ∙ c.list.ensures ∙ c.base_cases.ensures in
    let past = subst (λ (xs : List BaseCase). length xs ≤ c.loop-case.case-index) same c.loop-case-test.false in
    all_below (λ (k : ℕ) (b : BaseCase). EndsBy c.args.model.now c.args.mode.now c.args.ground c.args.e.now b) c.args.model.now.base_cases c.loop-case.case-index past c.loop-case.invariant
