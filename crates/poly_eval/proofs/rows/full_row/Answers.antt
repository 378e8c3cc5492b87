use Rattle.std.proofs.Common.{rules, ℕ, false, List, ℤ, sym, subst}
use Rattle.poly_terms.specs.declared.terms.Term.{Term}
use Rattle.poly_eval.specs.Bits.{Tells}
use Rattle.poly_eval.proofs.Steps.{if_ok}
use Rattle.poly_eval.proofs.rows.full_row.Goals as goal

pub returns-clause-bits : goal.returns-clause-bits
returns-clause-bits c =
    let empty : (v : ℕ → ℤ) → Tells v c.in_ok-empty.empty.items (λ j. false) = search rules in
    if_ok c.complements.result _ _ c.complements.ensures.bits (λ row h v. h v (λ j. false) (subst (λ (xs : List (List Term)). Tells v xs (λ j. false)) (sym c.deref.ensures.value) (empty v)))
