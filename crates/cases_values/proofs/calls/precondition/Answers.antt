use Rattle.std.proofs.Common.{◌∙◌, length, refl}
use Rattle.std.proofs.lemmas.Option.{slice_get_read}
use Rattle.cases_values.proofs.Fits.{precondition_fits}
use Rattle.cases_values.proofs.calls.precondition.Goals as goal

pub packed_cond-told-requires-clause-fits : goal.packed_cond-told-requires-clause-fits
packed_cond-told-requires-clause-fits c =
    let step = c.in-Some.ensures.lookup in
    let e = c.in-Some-get.ensures.lookup in
    precondition_fits c.args.model.now c.in_ok-desk.desk.scratch c.in_ok-desk.ensures.scratch c.args.transition c.args.place (length c.args.args.now)
    c.in-Some.step.now c.deref.result.now (c.deref.ensures.value ∙ c.list.ensures ∙ c.transitions.ensures)
    (slice_get_read c.deref.result.now (length c.deref.result.now) c.args.transition c.in-Some.step.now refl step.3.0 step.1)
    (c.are_given.ensures.all c.if-not-are_given.false)
    c.in-Some-get.e.now c.deref-2.result.now (c.deref-2.ensures.value ∙ c.list-2.ensures)
    (slice_get_read c.deref-2.result.now (length c.deref-2.result.now) c.args.place c.in-Some-get.e.now refl e.3.0 e.1)
