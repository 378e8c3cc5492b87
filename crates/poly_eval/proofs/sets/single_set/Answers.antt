use Rattle.std.proofs.Common.{rules, ◌≡◌, ℕ, ◌<◌, [], ◌∷◌, ℤ, pos, sym, ◌∙◌, subst}
use Rattle.dp_model.specs.Evaluation.{has}
use Rattle.poly_terms.specs.Worth.{worth}
use Rattle.wide_values.specs.Wide.{wide_member}
use Rattle.poly_eval.specs.Shows.{AreBits}
use Rattle.poly_eval.specs.Bits.{Tells}
use Rattle.poly_eval.proofs.Steps.{if_both}
use Rattle.poly_eval.proofs.SetSteps.{single_bits}
use Rattle.poly_eval.proofs.sets.single_set.Goals as goal

pub returns : goal.returns
returns c =
    let k = c.in_ok-member.member in
    let number : (v : ℕ → ℤ) → worth v c.args.x.items ≡ pos c.in_ok-member.member = search rules in
    let below : c.in_ok-member.member < c.args.count = search rules in
    if_both c.row_of.result _ (λ row. (v : ℕ → ℤ) → Tells v row.items (has (c.in_ok-member.member ∷ []))) _ c.row_of.ensures.many c.row_of.ensures.bits (λ row many bits v z e.
    subst (λ (y : ℤ). AreBits v row.items (wide_member y ∷ [])) (sym (e ∙ number v)) (single_bits v c.args.count row.items k many below (bits v)))
