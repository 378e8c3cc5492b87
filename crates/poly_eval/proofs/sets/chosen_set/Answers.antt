use Rattle.std.proofs.Common.{◌≡◌, ℕ, true, List, length, sym, ap, ◌∙◌, subst}
use Rattle.dp_model.specs.Evaluation.{has}
use Rattle.dp_model.specs.Typing.{is_set_below}
use Rattle.poly_terms.specs.declared.terms.Term.{Term}
use Rattle.poly_terms.specs.Worth.{worth}
use Rattle.poly_eval.specs.Bits.{Tells}
use Rattle.poly_eval.proofs.Steps.{if_both}
use Rattle.poly_eval.proofs.SetSteps.{chosen_bits}
use Rattle.poly_eval.proofs.sets.chosen_set.Goals as goal

pub returns-clause-bits : goal.returns-clause-bits
returns-clause-bits c =
    if_both c.chosen_row.result _ _ _ c.chosen_row.ensures.many c.chosen_row.ensures.bits (λ row many bits v held a b fits e xs ys.
    let alike : length c.args.x.items ≡ length c.args.y.items = ap length (sym c.deref-2.ensures.value) ∙ many.0 ∙ ap length c.deref-3.ensures.value in
    chosen_bits v held (length c.args.x.items) row.items a b (many.1 ∙ ap length c.deref-2.ensures.value) xs.below (subst (λ (n : ℕ). is_set_below n b ≡ true) (sym alike) ys.below)
    (bits v held (has a) (has b) fits (e ∙ ap (worth v) (sym c.deref.ensures.value))
    (subst (λ (us : List (List Term)). Tells v us (has a)) (sym c.deref-2.ensures.value) xs.bit)
    (subst (λ (us : List (List Term)). Tells v us (has b)) (sym c.deref-3.ensures.value) ys.bit)))
