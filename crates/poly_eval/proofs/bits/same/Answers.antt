use Rattle.std.proofs.Common.{rules, ◌≡◌, ℕ, ℤ, List, sym, ap₂, ◌∙◌, ◌*ℤ◌, subst}
use Rattle.std.specs.Prelude.{int_le}
use Rattle.poly_terms.specs.declared.table.Atom.{Atom}
use Rattle.poly_terms.specs.declared.terms.Term.{Term}
use Rattle.poly_terms.specs.Worth.{worth, as_bit}
use Rattle.poly_terms.specs.Fits.{Fits}
use Rattle.poly_eval.proofs.Steps.{if_ok, fits_before, same_bits}
use Rattle.poly_eval.proofs.bits.same.Goals as goal

pub returns-clause-value : goal.returns-clause-value
returns-clause-value c =
    let low : (v : ℕ → ℤ) → Fits c.at_most.new.table.items v → worth v c.in_ok-below.below.items ≡ as_bit (int_le (worth v c.args.a.now) (worth v c.args.b.now)) = search rules in
    let high : (v : ℕ → ℤ) → Fits c.at_most-2.new.table.items v → worth v c.in_ok-above.above.items ≡ as_bit (int_le (worth v c.args.b.now) (worth v c.args.a.now)) = search rules in
    if_ok c.product.result _ _ c.product.ensures (λ p h v fits.
    h v (subst (λ (atoms : List Atom). Fits atoms v) (sym c.deref.ensures.value) fits)
    ∙ ap₂ (λ (x y : List Term). worth v x *ℤ worth v y) c.deref-2.ensures.value c.deref-3.ensures.value
    ∙ ap₂ (λ (x y : ℤ). x *ℤ y) (low v (fits_before c.at_most.new.table.items c.at_most-2.new.table.items v c.at_most-2.ensures.grows fits)) (high v fits)
    ∙ same_bits (worth v c.args.a.now) (worth v c.args.b.now))
