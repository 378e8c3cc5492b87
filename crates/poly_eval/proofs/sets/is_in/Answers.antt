use Rattle.std.proofs.Common.{rules, ◌≡◌, ℕ, ◌<◌, length, slice_get, Some, ℤ, pos, refl, sym, ap, ◌∙◌}
use Rattle.std.proofs.lemmas.Option.{slice_get_read}
use Rattle.dp_model.specs.Evaluation.{has}
use Rattle.poly_terms.specs.Worth.{worth, as_bit}
use Rattle.wide_values.specs.Wide.{wide_member}
use Rattle.poly_eval.proofs.Steps.{if_ok}
use Rattle.poly_eval.proofs.sets.is_in.Goals as goal

pub returns : goal.returns
returns c =
    let k = c.in_ok-member.member in
    let number : (v : ℕ → ℤ) → worth v c.args.x.items ≡ pos c.in_ok-member.member = search rules in
    let inside : c.in_ok-member.member < length c.args.row.items = search rules in
    let here : slice_get c.args.row.items c.in_ok-member.member ≡ Some c.index.result.now = slice_get_read c.args.row.items (length c.args.row.items) c.in_ok-member.member c.index.result.now refl inside c.index.ensures in
    let same : c.deref-2.result.now ≡ c.index.result.now = search rules in
    if_ok c.same_sum.result _ _ c.same_sum.ensures (λ p h v z a e bits.
    ap (λ (y : ℤ). as_bit (has a (wide_member y))) (e ∙ number v) ∙ bits.bit k c.index.result.now here ∙ ap (worth v) (sym same) ∙ sym (h v))
