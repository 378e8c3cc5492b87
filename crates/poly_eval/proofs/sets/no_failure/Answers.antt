use Rattle.std.proofs.Common.{◌≡◌, ℕ, Bool, not, ◌&&◌, List, length, ℤ, sym, ap, ◌∙◌, subst}
use Rattle.dp_model.specs.Evaluation.{has}
use Rattle.poly_terms.specs.declared.terms.Term.{Term}
use Rattle.poly_terms.specs.Worth.{worth, as_bit}
use Rattle.poly_terms.specs.Fits.{Fits}
use Rattle.poly_eval.specs.Bits.{Tells, none_of}
use Rattle.poly_eval.proofs.Steps.{if_ok}
use Rattle.poly_eval.proofs.SetSteps.{all_is}
use Rattle.poly_eval.proofs.sets.no_failure.Goals as goal

pub returns-clause-value : goal.returns-clause-value
returns-clause-value c =
    if_ok c.none_in.result _ _ c.none_in.ensures.value (λ p h v a g fits below tells.
    let held = subst (λ (xs : List (List Term)). (v : ℕ → ℤ) (f : ℕ → Bool) → Fits c.none_in.new.table.items v → Tells v xs f → as_bit (none_of (length xs) f) ≡ worth v p.items) c.deref.ensures.value h in
    ap as_bit (sym (all_is (length c.args.row.items) a g below)) ∙ held v (λ j. has a j && not (g j)) fits tells)
