use Rattle.std.proofs.Common.{length, refl, ◌∙◌}
use Rattle.std.proofs.lemmas.Option.{slice_get_read}
use Rattle.honest_steps.proofs.Law.{the_law}
use Rattle.honest_steps.proofs.Left.{ground_at, moved_is}
use Rattle.honest_steps.proofs.Tables.{ok_some}
use Rattle.honest_steps.proofs.moving.moved.Goals as goal

pub returns-in-Some-2 : goal.returns-in-Some-2
returns-in-Some-2 c =
    let at = c.in-Some.ensures.lookup in
    let there = c.in-Some-get.ensures.lookup in
    let named = ground_at c.args.model.now c.args.ground c.deref.result.now c.deref-2.result.now c.in-Some.step.now c.transition.result c.in-Some-get.transition.now c.deref-in-Some-2.result.now
    (c.deref.ensures.value ∙ c.list.ensures ∙ c.ground.ensures) (c.deref-2.ensures.value ∙ c.list-2.ensures ∙ c.transitions.ensures) c.transition.ensures (c.deref-in-Some-2.ensures.value ∙ c.list-in-Some-2.ensures ∙ c.args-in-Some-2.ensures)
    (slice_get_read c.deref.result.now (length c.deref.result.now) c.args.ground c.in-Some.step.now refl at.3.0 at.1) (slice_get_read c.deref-2.result.now (length c.deref-2.result.now) c.transition.result c.in-Some-get.transition.now refl there.3.0 there.1) in
    let shown = rw c.in-Some-2.is at c.in_ok-symbolic.ensures.shows in
    ok_some c.moved_by.result _ _ c.moved_by.ensures (λ x by. moved_is the_law c.args.model.now c.args.mode.now c.args.ground (c.in-Some-get.transition.now, c.deref-in-Some-2.result.now) c.in-Some-2.symbolic x named shown by)
