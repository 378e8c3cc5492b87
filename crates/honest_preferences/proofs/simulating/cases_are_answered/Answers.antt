use Rattle.std.proofs.Common.{◌≡◌, ◌≤◌, List, Some, length, slice_get, subst, ◌∙◌}
use Rattle.dp_model.specs.declared.parts.BaseCase.{BaseCase}
use Rattle.honest_preferences.specs.Parts.{IsAnswered}
use Rattle.honest_preferences.proofs.Places.{all_below, item_at, one_further}
use Rattle.honest_preferences.proofs.Satisfied.{cases_answered}
use Rattle.honest_preferences.proofs.simulating.cases_are_answered.Goals as goal

pub loop-case-preserved : goal.loop-case-preserved
loop-case-preserved c =
    let i = c.loop-case.case-index in
    let case = c.case-item.result in
    let same = c.deref-case-items.ensures.value ∙ c.list.ensures ∙ c.base_cases.ensures in
    let here = subst (λ (xs : List BaseCase). slice_get xs i ≡ Some case) same (item_at c.deref-case-items.result.now i case c.loop-case-test.true c.case-item.is) in
    one_further (IsAnswered c.args.at.now.model.now c.args.at.now.kept.now c.args.at.now.ends.now) c.args.at.now.model.now.base_cases i case here (c.case_is_answered.ensures c.if-not-case_is_answered.false) c.loop-case.invariant

pub returns : goal.returns
returns c = λ _.
    let same = c.deref-case-items.ensures.value ∙ c.list.ensures ∙ c.base_cases.ensures in
    let past = subst (λ (xs : List BaseCase). length xs ≤ c.loop-case.case-index) same c.loop-case-test.false in
    cases_answered c.args.at.now.model.now c.args.at.now.kept.now c.args.at.now.ends.now
    (all_below (IsAnswered c.args.at.now.model.now c.args.at.now.kept.now c.args.at.now.ends.now) c.args.at.now.model.now.base_cases c.loop-case.case-index past c.loop-case.invariant)
