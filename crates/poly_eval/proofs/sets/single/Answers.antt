use Rattle.std.proofs.Common.{rules, ◌≡◌, ℕ, eqb, [], ◌∷◌, ℤ, pos, sym, ap, ◌∙◌}
use Rattle.dp_model.specs.Evaluation.{has}
use Rattle.poly_terms.specs.Worth.{worth}
use Rattle.wide_values.specs.Wide.{wide_member}
use Rattle.poly_eval.specs.Bits.{Tells}
use Rattle.poly_eval.proofs.Steps.{if_ok}
use Rattle.poly_eval.proofs.SetSteps.{tells_same, or_false}
use Rattle.poly_eval.proofs.sets.single.Goals as goal

pub returns-clause-bits : goal.returns-clause-bits
returns-clause-bits c =
    let k = c.in_ok-member.member in
    let number : (v : ℕ → ℤ) → worth v c.args.x.items ≡ pos c.in_ok-member.member = search rules in
    if_ok c.row_of.result (λ row. (v : ℕ → ℤ) → Tells v row.items (has (c.in_ok-member.member ∷ []))) _ c.row_of.ensures.bits (λ row bits v z e.
    tells_same v row.items (has (k ∷ [])) (λ j. eqb j (wide_member z)) (λ j. or_false (eqb j k) ∙ ap (λ (y : ℤ). eqb j (wide_member y)) (sym (e ∙ number v))) (bits v))
