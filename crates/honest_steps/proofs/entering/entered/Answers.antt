use Rattle.std.proofs.Common.{length, refl, ◌∙◌}
use Rattle.std.proofs.lemmas.Option.{slice_get_read}
use Rattle.honest_states.specs.declared.mode.Narrowed.TheVariants.{Never}
use Rattle.honest_steps.proofs.Law.{the_law}
use Rattle.honest_steps.proofs.Left.{enters_both, enters_by, ground_at}
use Rattle.honest_steps.proofs.Tables.{ok_one}
use Rattle.honest_steps.proofs.entering.entered.Goals as goal

pub returns-in-Never : goal.returns-in-Never
returns-in-Never c =
    let at = c.in-Some.ensures.lookup in
    let there = c.in-Some-get.ensures.lookup in
    let named = ground_at c.args.model.now c.args.ground c.deref.result.now c.deref-2.result.now c.in-Some.step.now c.transition.result c.in-Some-get.transition.now c.deref-3.result.now
    (c.deref.ensures.value ∙ c.list.ensures ∙ c.ground.ensures) (c.deref-2.ensures.value ∙ c.list-2.ensures ∙ c.transitions.ensures) c.transition.ensures (c.deref-3.ensures.value ∙ c.list-3.ensures ∙ c.args-2.ensures)
    (slice_get_read c.deref.result.now (length c.deref.result.now) c.args.ground c.in-Some.step.now refl at.3.0 at.1) (slice_get_read c.deref-2.result.now (length c.deref-2.result.now) c.transition.result c.in-Some-get.transition.now refl there.3.0 there.1) in
    let leaves = rw c.in-Never.is at c.in_ok-where_may_go.ensures in
    enters_by the_law c.args.model.now c.args.mode.now c.args.ground (c.in-Some-get.transition.now, c.deref-3.result.now) Never named leaves

pub returns-in-To : goal.returns-in-To
returns-in-To c =
    let at = c.in-Some.ensures.lookup in
    let there = c.in-Some-get.ensures.lookup in
    let named = ground_at c.args.model.now c.args.ground c.deref.result.now c.deref-2.result.now c.in-Some.step.now c.transition.result c.in-Some-get.transition.now c.deref-3.result.now
    (c.deref.ensures.value ∙ c.list.ensures ∙ c.ground.ensures) (c.deref-2.ensures.value ∙ c.list-2.ensures ∙ c.transitions.ensures) c.transition.ensures (c.deref-3.ensures.value ∙ c.list-3.ensures ∙ c.args-2.ensures)
    (slice_get_read c.deref.result.now (length c.deref.result.now) c.args.ground c.in-Some.step.now refl at.3.0 at.1) (slice_get_read c.deref-2.result.now (length c.deref-2.result.now) c.transition.result c.in-Some-get.transition.now refl there.3.0 there.1) in
    let leaves = rw c.in-To.is at c.in_ok-where_may_go.ensures in
    ok_one c.without_all.result _ _ c.without_all.ensures (λ left enters. enters_both the_law c.args.model.now c.args.mode.now c.args.ground (c.in-Some-get.transition.now, c.deref-3.result.now) c.in-To.left left named leaves enters)
