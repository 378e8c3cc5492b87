use Rattle.std.proofs.Common.{rules, ◌≡◌, ℕ, Bool, length, ℤ, pos, sym, ap, ◌∙◌}
use Rattle.std.specs.Prelude.{int_le}
use Rattle.poly_terms.specs.Worth.{worth, as_bit}
use Rattle.poly_eval.specs.Bits.{Tells, many_of}
use Rattle.poly_eval.proofs.Steps.{if_ok}
use Rattle.poly_eval.proofs.RowSteps.{none_is}
use Rattle.poly_eval.proofs.rows.none_in.Goals as goal

pub returns-clause-value : goal.returns-clause-value
returns-clause-value c =
    let sum : (v : ℕ → ℤ) (f : ℕ → Bool) → Tells v c.args.row.now f → worth v c.in_ok-sum.sum.items ≡ pos (many_of (length c.args.row.now) f) = search rules in
    if_ok c.at_most_zero.result _ _ c.at_most_zero.ensures.value (λ p h v f fits tells.
    sym (h v fits ∙ ap (λ (z : ℤ). as_bit (int_le z (pos 0))) (sum v f tells) ∙ ap as_bit (none_is (length c.args.row.now) f)))
