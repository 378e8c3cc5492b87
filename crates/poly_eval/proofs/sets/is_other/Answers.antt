use Rattle.std.proofs.Common.{rules, ◌≡◌, ℕ, List, ℤ, sym, ap, ◌∙◌}
use Rattle.poly_terms.specs.Worth.{worth, as_bit}
use Rattle.poly_terms.specs.Fits.{Fits}
use Rattle.poly_eval.specs.Shows.{AreBits}
use Rattle.poly_eval.proofs.Steps.{if_ok}
use Rattle.std.specs.Str.{bytes_eq}
use Rattle.poly_eval.proofs.sets.is_other.Goals as goal

pub returns-clause-value : goal.returns-clause-value
returns-clause-value c =
    let same : (v : ℕ → ℤ) (a b : List ℕ) → Fits c.is_same.new.table.items v → AreBits v c.args.x.items a → AreBits v c.args.y.items b → as_bit (bytes_eq a b) ≡ worth v c.in_ok-same.same.items = search rules in
    if_ok c.negated.result _ _ c.negated.ensures (λ p h v a b fits xs ys. h v (bytes_eq a b) (same v a b fits xs ys ∙ ap (worth v) (sym c.deref.ensures.value)))
