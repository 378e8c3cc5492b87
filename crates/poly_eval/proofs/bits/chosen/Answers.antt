use Rattle.std.proofs.Common.{rules, ◌≡◌, ℕ, ℤ, List, ap, ◌∙◌, pos, negsuc, ◌+ℤ◌, ◌*ℤ◌}
use Rattle.poly_terms.specs.declared.terms.Term.{Term}
use Rattle.poly_terms.specs.Worth.{worth}
use Rattle.poly_terms.specs.Fits.{Fits}
use Rattle.poly_eval.proofs.Steps.{if_ok, chosen_is}
use Rattle.poly_eval.proofs.bits.chosen.Goals as goal

pub returns : goal.returns
returns c =
    let d : (v : ℕ → ℤ) → worth v c.in_ok-difference.difference.items ≡ worth v c.args.a.now +ℤ negsuc 0 *ℤ worth v c.args.b.now = search rules in
    let q : (v : ℕ → ℤ) → Fits c.args.table.now v → worth v c.in_ok-part.part.items ≡ worth v c.args.c.now *ℤ worth v c.in_ok-difference.difference.items = search rules in
    if_ok c.combined-2.result _ _ c.combined-2.ensures (λ p h v held fits e.
    chosen_is held (worth v c.args.c.now) (worth v c.args.a.now) (worth v c.args.b.now) (worth v c.in_ok-difference.difference.items) (worth v c.in_ok-part.part.items) (worth v p.items) e (d v) (q v fits)
    (h v ∙ ap (λ (zs : List Term). worth v c.args.b.now +ℤ pos 1 *ℤ worth v zs) c.deref-2.ensures.value))
