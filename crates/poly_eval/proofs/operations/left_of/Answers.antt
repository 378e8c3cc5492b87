use Rattle.std.proofs.Common.{rules, ◌≡◌, ℕ, List, ℤ, pos, negsuc, ◌+ℤ◌, ◌*ℤ◌, ap, ◌∙◌}
use Rattle.poly_terms.specs.declared.terms.Term.{Term}
use Rattle.poly_terms.specs.Worth.{worth}
use Rattle.poly_eval.proofs.Steps.{if_ok, rest_is}
use Rattle.poly_eval.proofs.operations.left_of.Goals as goal

pub returns : goal.returns
returns c =
    let part : (v : ℕ → ℤ) → worth v c.in_ok-part.part.items ≡ pos 0 +ℤ c.args.d *ℤ worth v c.args.times.now = search rules in
    if_ok c.combined-2.result _ _ c.combined-2.ensures (λ p h v e.
    rest_is (worth v c.args.a.now) c.args.d (worth v c.args.times.now) (worth v c.in_ok-part.part.items) (worth v p.items) e (part v)
    (h v ∙ ap (λ (zs : List Term). worth v c.args.a.now +ℤ negsuc 0 *ℤ worth v zs) c.deref.ensures.value))
