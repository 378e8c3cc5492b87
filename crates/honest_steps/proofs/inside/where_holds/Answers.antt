use Rattle.dp_model.specs.declared.parts.PlainState.{PlainState}
use Rattle.wide_values.specs.Wide.{wide_cond}
use Rattle.honest_steps.proofs.Left.{left_true}
use Rattle.honest_steps.proofs.Tables.{ok_one}
use Rattle.honest_steps.proofs.inside.where_holds.Goals as goal

pub returns-in-Some-2 : goal.returns-in-Some-2
returns-in-Some-2 c =
    let seen = rw c.in-Some.is at c.in_ok-table.ensures in
    let bit = rw c.in-Some-2.is at c.in_ok-bit.ensures.value in
    ok_one c.left_by.result _ _ c.left_by.ensures (λ left by.
    left_true c.args.model.now c.args.view c.args.mode.now (λ (x : PlainState). wide_cond c.args.model.now x c.args.c.now c.args.given.now) c.in-Some.field-0
    c.deref-in-Some-2.result.now c.condition.new.table.items c.deref.result.now c.deref-in-Some-2-2.result.now c.deref-in-Some-2-3.result.now c.in-Some-2.bit.items left
    seen c.in_ok-bit.ensures.grows c.deref.ensures.value c.deref-in-Some-2.ensures.value c.deref-in-Some-2-2.ensures.value c.deref-in-Some-2-3.ensures.value bit by)
