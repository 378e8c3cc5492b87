use Rattle.std.specs.Prelude.{int_le}
use Rattle.std.proofs.Common.{◌≡◌, Some, List, pos, slice_get, length, refl, sym, ap, subst, ◌∙◌}
use Rattle.std.proofs.lemmas.Option.{slice_get_read}
use Rattle.poly_terms.specs.declared.table.Atom.{Atom}
use Rattle.poly_terms.specs.declared.table.Atom.TheVariants.{AtMostZero}
use Rattle.poly_terms.specs.declared.terms.Term.{Term}
use Rattle.poly_terms.specs.Worth.{worth}
use Rattle.honest_states.proofs.Lists.{if_ok}
use Rattle.honest_states.proofs.Knowing.{as_bit_same}
use Rattle.honest_states.proofs.learning.+learning.Goals as goal

pub learn_bit-returns-in-Some-AtMostZero : goal.learn_bit-returns-in-Some-AtMostZero
learn_bit-returns-in-Some-AtMostZero t c =
    let arm = c.in-Some-AtMostZero in
    let look = arm.ensures.lookup in
    let here = subst (λ (a : Atom). slice_get c.args.table.now c.args.atom ≡ Some a) arm.field-0-is (slice_get_read c.args.table.now (length c.args.table.now) c.args.atom arm.field-0.now refl look.3.0 look.1) in
    let settled = rw c.in-Some.is at c.in_ok-value.ensures in
    let same = c.deref.ensures.value ∙ c.list.ensures in
    if_ok c.learn_truth.result _ _ c.learn_truth.ensures (λ possible h v fits low facts.
    let value = settled v fits low in
    let truth = as_bit_same (int_le (worth v arm.inner) (pos 0)) c.in-Some.value (sym (fits c.args.atom (AtMostZero arm.inner) here) ∙ value) in
    h v fits (ap (λ (p : List Term). int_le (worth v p) (pos 0)) same ∙ truth) (c.in_ok-note_bit.ensures v value facts))
