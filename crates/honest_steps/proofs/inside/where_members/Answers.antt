use Rattle.std.proofs.Common.{List, ◌∙◌, sym, subst}
use Rattle.dp_model.specs.declared.parts.PlainState.{PlainState}
use Rattle.dp_steps.specs.States.{are_members}
use Rattle.poly_terms.specs.declared.table.Atom.{Atom}
use Rattle.poly_eval.specs.Shows.{Extends}
use Rattle.honest_steps.specs.declared.views.View.TheVariants.{Here}
use Rattle.honest_steps.proofs.Left.{left_true}
use Rattle.honest_steps.proofs.Tables.{extends_self, ok_one}
use Rattle.honest_steps.proofs.inside.where_members.Goals as goal

pub returns-in-Some-2 : goal.returns-in-Some-2
returns-in-Some-2 c =
    let seen = rw c.in-Some.is at c.in_ok-table.ensures in
    let bit = rw c.in-Some-2.is at c.in_ok-bit.ensures in
    ok_one c.left_by.result _ _ c.left_by.ensures (λ left by.
    left_true c.args.model.now Here c.args.mode.now (λ (x : PlainState). are_members x c.args.params.now c.args.args.now) c.in-Some.field-0
    c.deref-in-Some-2.result.now c.deref.result.now c.deref-2.result.now c.deref-in-Some-2-2.result.now c.deref-in-Some-2-3.result.now c.in-Some-2.bit.items left
    seen (subst (λ (z : List Atom). Extends c.in-Some.field-0.table.items z) (sym c.deref.ensures.value) (extends_self c.in-Some.field-0.table.items)) c.deref-2.ensures.value (c.deref-in-Some-2.ensures.value ∙ sym c.deref.ensures.value) c.deref-in-Some-2-2.ensures.value c.deref-in-Some-2-3.ensures.value
    (λ s v state fits shows. bit s v fits shows) by)
