use Rattle.std.proofs.Common.{not, List, length, sym, ap, ◌∙◌, subst}
use Rattle.dp_model.specs.Evaluation.{has}
use Rattle.poly_terms.specs.declared.terms.Term.{Term}
use Rattle.poly_eval.specs.Bits.{Tells}
use Rattle.poly_eval.proofs.Steps.{if_both}
use Rattle.poly_eval.proofs.SetSteps.{where_bits}
use Rattle.poly_eval.proofs.sets.complement.Goals as goal

pub returns-clause-bits : goal.returns-clause-bits
returns-clause-bits c =
    if_both c.complements.result _ _ _ c.complements.ensures.many c.complements.ensures.bits (λ row many bits v a xs.
    where_bits v (length c.args.x.items) row.items (λ k. not (has a k)) (many ∙ ap length c.deref.ensures.value)
    (bits v (has a) (subst (λ (us : List (List Term)). Tells v us (has a)) (sym c.deref.ensures.value) xs.bit)))
