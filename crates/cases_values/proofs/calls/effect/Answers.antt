use Rattle.std.proofs.Common.{◌∙◌, ap, length, refl, Some}
use Rattle.std.proofs.lemmas.Option.{slice_get_read}
use Rattle.cases_values.proofs.Fits.{members_fit, number_fits}
use Rattle.cases_values.proofs.calls.effect.Goals as goal

pub packed_num-told-requires-clause-fits : goal.packed_num-told-requires-clause-fits
packed_num-told-requires-clause-fits c =
    let step = c.in-Some.ensures.lookup in
    let effect = c.in-Some-get.ensures.lookup in
    number_fits c.args.model.now c.in_ok-desk.desk.scratch c.in_ok-desk.ensures.scratch c.args.transition c.args.place (length c.args.args.now)
    c.in-Some.step.now c.deref.result.now (c.deref.ensures.value ∙ c.list.ensures ∙ c.transitions.ensures)
    (slice_get_read c.deref.result.now (length c.deref.result.now) c.args.transition c.in-Some.step.now refl step.3.0 step.1)
    (c.are_given.ensures.all c.if-not-are_given.false)
    c.in-Number.field-0 c.in-Number.e c.deref-2.result.now (c.deref-2.ensures.value ∙ c.list-2.ensures)
    (slice_get_read c.deref-2.result.now (length c.deref-2.result.now) c.args.place c.in-Some-get.effect.now refl effect.3.0 effect.1 ∙ ap Some c.in-Number.is)

pub packed_set-told-requires-clause-fits : goal.packed_set-told-requires-clause-fits
packed_set-told-requires-clause-fits c =
    let step = c.in-Some.ensures.lookup in
    let effect = c.in-Some-get.ensures.lookup in
    members_fit c.args.model.now c.in_ok-desk.desk.scratch c.in_ok-desk.ensures.scratch c.args.transition c.args.place (length c.args.args.now)
    c.in-Some.step.now c.deref.result.now (c.deref.ensures.value ∙ c.list.ensures ∙ c.transitions.ensures)
    (slice_get_read c.deref.result.now (length c.deref.result.now) c.args.transition c.in-Some.step.now refl step.3.0 step.1)
    (c.are_given.ensures.all c.if-not-are_given.false)
    c.in-Members.field-0 c.in-Members.e c.deref-2.result.now (c.deref-2.ensures.value ∙ c.list-2.ensures)
    (slice_get_read c.deref-2.result.now (length c.deref-2.result.now) c.args.place c.in-Some-get.effect.now refl effect.3.0 effect.1 ∙ ap Some c.in-Members.is)
