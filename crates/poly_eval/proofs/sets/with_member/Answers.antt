use Rattle.std.proofs.Common.{rules, ◌≡◌, ℕ, ◌||◌, eqb, List, length, ℤ, sym, ap, ◌∙◌, subst}
use Rattle.dp_model.specs.Evaluation.{has}
use Rattle.poly_terms.specs.declared.terms.Term.{Term}
use Rattle.poly_terms.specs.Worth.{worth}
use Rattle.wide_values.specs.Wide.{wide_member}
use Rattle.poly_eval.specs.Bits.{Tells}
use Rattle.poly_eval.proofs.Steps.{if_both}
use Rattle.poly_eval.proofs.SetSteps.{where_bits}
use Rattle.poly_eval.proofs.sets.with_member.Goals as goal

pub returns-clause-bits : goal.returns-clause-bits
returns-clause-bits c =
    let first : (v : ℕ → ℤ) (z : ℤ) → z ≡ worth v c.args.x.items → Tells v c.in_ok-one.one.items (λ j. eqb j (wide_member z)) = search rules in
    let long : length c.in_ok-one.one.items ≡ length c.args.y.items = search rules in
    if_both c.joined_rows.result _ _ _ c.joined_rows.ensures.many c.joined_rows.ensures.bits (λ row many bits v z a fits e ys.
    where_bits v (length c.args.y.items) row.items (λ k. eqb k (wide_member z) || has a k) (many.1 ∙ ap length c.deref.ensures.value ∙ long)
    (bits v (λ j. eqb j (wide_member z)) (has a) fits (subst (λ (us : List (List Term)). Tells v us (λ j. eqb j (wide_member z))) (sym c.deref.ensures.value) (first v z e))
    (subst (λ (us : List (List Term)). Tells v us (has a)) (sym c.deref-2.ensures.value) ys.bit)))
