use Rattle.std.proofs.Common.{◌≡◌, ℕ, Bool, List, length, ℤ, sym, ap, ◌∙◌, subst}
use Rattle.dp_model.specs.Evaluation.{has}
use Rattle.poly_terms.specs.declared.terms.Term.{Term}
use Rattle.poly_terms.specs.Worth.{worth, as_bit}
use Rattle.poly_terms.specs.Fits.{Fits}
use Rattle.poly_eval.specs.Bits.{Tells, none_of}
use Rattle.poly_eval.proofs.Steps.{if_ok}
use Rattle.poly_eval.proofs.SetSteps.{empty_is}
use Rattle.poly_eval.proofs.sets.is_empty.Goals as goal

pub returns-clause-value : goal.returns-clause-value
returns-clause-value c =
    if_ok c.none_in.result _ _ c.none_in.ensures.value (λ p h v a fits bits.
    let g = subst (λ (xs : List (List Term)). (v : ℕ → ℤ) (f : ℕ → Bool) → Fits c.none_in.new.table.items v → Tells v xs f → as_bit (none_of (length xs) f) ≡ worth v p.items) c.deref.ensures.value h in
    ap as_bit (sym (empty_is (length c.args.row.items) a bits.below)) ∙ g v (has a) fits bits.bit)
