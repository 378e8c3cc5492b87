use Rattle.dp_model.specs.declared.parts.PlainState.{PlainState}
use Rattle.wide_steps.specs.Steps.{may_go}
use Rattle.honest_steps.specs.declared.views.View.TheVariants.{Here}
use Rattle.honest_steps.proofs.Left.{left_false}
use Rattle.honest_steps.proofs.Tables.{ok_one}
use Rattle.honest_steps.proofs.inside.where_may_not_go.Goals as goal

pub returns-in-Some-3 : goal.returns-in-Some-3
returns-in-Some-3 c =
    let seen = rw c.in-Some.is at c.in_ok-table.ensures in
    let bit = rw c.in-Some-2.is at c.in_ok-bit.ensures.value in
    let other = rw c.in-Some-3.is at c.in_ok-other.ensures in
    ok_one c.left_by.result _ _ c.left_by.ensures (λ left by.
    left_false c.args.model.now Here c.args.mode.now (λ (x : PlainState). may_go c.args.model.now x (c.args.transition.now, c.args.args.now)) c.in-Some.field-0
    c.deref-in-Some-3.result.now c.may_go_bit.new.table.items c.deref.result.now c.deref-in-Some-3-2.result.now c.deref-in-Some-3-3.result.now c.deref-2.result.now c.in-Some-2.bit.items c.in-Some-3.other.items left
    seen c.in_ok-bit.ensures.grows c.deref.ensures.value c.deref-in-Some-3.ensures.value c.deref-in-Some-3-2.ensures.value c.deref-in-Some-3-3.ensures.value c.deref-2.ensures.value bit other by)
