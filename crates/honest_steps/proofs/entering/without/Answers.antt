use Rattle.std.proofs.Common.{rules, ◌≡◌, true, length, refl, ◌∙◌}
use Rattle.std.proofs.lemmas.Option.{slice_get_read}
use Rattle.honest_steps.proofs.Law.{the_law}
use Rattle.honest_steps.proofs.Left.{enters_without, ground_at}
use Rattle.honest_steps.proofs.Tables.{ok_one}
use Rattle.honest_steps.proofs.entering.without.Goals as goal

pub returns-then-goes_before : goal.returns-then-goes_before
returns-then-goes_before c =
    let at = c.in-Some.ensures.lookup in
    let there = c.in-Some-get.ensures.lookup in
    let named = ground_at c.args.model.now c.args.number c.deref.result.now c.deref-2.result.now c.in-Some.step.now c.transition.result c.in-Some-get.transition.now c.deref-then-goes_before.result.now
    (c.deref.ensures.value ∙ c.list.ensures ∙ c.ground.ensures) (c.deref-2.ensures.value ∙ c.list-2.ensures ∙ c.transitions.ensures) c.transition.ensures (c.deref-then-goes_before.ensures.value ∙ c.list-then-goes_before.ensures ∙ c.args-then-goes_before.ensures)
    (slice_get_read c.deref.result.now (length c.deref.result.now) c.args.number c.in-Some.step.now refl at.3.0 at.1) (slice_get_read c.deref-2.result.now (length c.deref-2.result.now) c.transition.result c.in-Some-get.transition.now refl there.3.0 there.1) in
    let forced : c.in-Some-get.transition.now.forced ≡ true = search rules in
    ok_one c.where_may_not_go.result _ _ c.where_may_not_go.ensures (λ left leaves.
    enters_without the_law c.args.model.now c.args.mode.now c.args.ground c.args.number (c.in-Some-get.transition.now, c.deref-then-goes_before.result.now) left named forced (c.goes_before.ensures c.if-goes_before.true) leaves)
