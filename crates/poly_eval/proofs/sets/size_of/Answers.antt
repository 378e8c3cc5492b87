use Rattle.std.proofs.Common.{◌≡◌, ℕ, Bool, List, length, ℤ, pos, sym, ap, ◌∙◌, subst}
use Rattle.dp_model.specs.Evaluation.{has}
use Rattle.poly_terms.specs.declared.terms.Term.{Term}
use Rattle.poly_terms.specs.Worth.{worth}
use Rattle.poly_eval.specs.Bits.{Tells, many_of}
use Rattle.poly_eval.proofs.Steps.{if_ok}
use Rattle.poly_eval.proofs.SetSteps.{size_is}
use Rattle.poly_eval.proofs.sets.size_of.Goals as goal

pub returns : goal.returns
returns c =
    if_ok c.total.result _ _ c.total.ensures (λ p h v a bits.
    let g = subst (λ (xs : List (List Term)). (v : ℕ → ℤ) (f : ℕ → Bool) → Tells v xs f → worth v p.items ≡ pos (many_of (length xs) f)) c.deref.ensures.value h in
    sym (g v (has a) bits.bit ∙ ap pos (size_is (length c.args.row.items) a bits.below)))
