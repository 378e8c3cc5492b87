use Rattle.std.proofs.Common.{◌≡◌, List, Some, None, length, slice_get, refl, subst, ◌∙◌}
use Rattle.std.proofs.lemmas.Option.{slice_get_past, slice_get_read}
use Rattle.dp_model.specs.declared.trees.Num.{Num}
use Rattle.honest_steps.proofs.Tables.{ok_one}
use Rattle.honest_bounds.proofs.Narrowing.{kept_none, kept_one, shown_bound, shown_stays}
use Rattle.honest_bounds.proofs.asking.is_shown_inside.Goals as goal

pub returns-in-Stays : goal.returns-in-Stays
returns-in-Stays c = ok_one c.stays_in.result _ _ c.stays_in.ensures (λ shown h yes.
    shown_stays c.args.model.now c.args.modes.now c.args.mode.now c.args.ground c.args.asked c.in-Stays.is (h yes))

pub returns-in-Some : goal.returns-in-Some
returns-in-Some c =
    let place = c.in-Bound.place in
    let e = c.in-Some.e.now in
    let look = c.in-Some.ensures.lookup in
    let same = c.deref.ensures.value ∙ c.list.ensures ∙ c.bounds.ensures in
    let here = subst (λ (es : List Num). slice_get es place ≡ Some e) same (slice_get_read c.deref.result.now (length c.deref.result.now) place e refl look.3.0 look.1) in
    ok_one c.is_kept.result _ _ c.is_kept.ensures (λ shown h yes.
    shown_bound c.args.model.now c.args.modes.now c.args.mode.now c.args.ground c.args.asked place c.in-Bound.is (kept_one c.args.model.now c.args.mode.now c.args.ground place e here (h yes)))

pub returns-in-None : goal.returns-in-None
returns-in-None c = λ _.
    let place = c.in-Bound.place in
    let same = c.deref.ensures.value ∙ c.list.ensures ∙ c.bounds.ensures in
    let none = subst (λ (es : List Num). slice_get es place ≡ None) same (slice_get_past c.deref.result.now place c.in-None.ensures.lookup.3) in
    shown_bound c.args.model.now c.args.modes.now c.args.mode.now c.args.ground c.args.asked place c.in-Bound.is (kept_none c.args.model.now c.args.mode.now c.args.ground place none)
