use Rattle.std.proofs.Common.{length, refl, sym, ap, ◌∙◌}
use Rattle.std.proofs.lemmas.Option.{slice_get_read}
use Rattle.dp_model.specs.Evaluation.{has, set_held}
use Rattle.poly_terms.specs.Worth.{worth}
use Rattle.honest_states.proofs.Lists.{if_ok}
use Rattle.honest_states.proofs.Knowing.{so_worth}
use Rattle.honest_states.proofs.within.is_member_within.Goals as goal

pub returns-in-Some-get : goal.returns-in-Some-get
returns-in-Some-get c =
    let look = c.in-Some-get.ensures.lookup in
    let here = slice_get_read c.args.bits.now (length c.args.bits.now) c.args.member c.in-Some-get.bit.now refl look.3.0 look.1 in
    if_ok c.is_worth.result _ _ c.is_worth.ensures (λ shown is yes v held fits shows.
    so_worth c.args.known c.in-Some.value (has (set_held held) c.args.member) c.in-Some.is (shows c.args.member c.in-Some-get.bit.now here ∙ ap (worth v) (sym (c.deref.ensures.value ∙ c.list.ensures)) ∙ is yes v fits))
