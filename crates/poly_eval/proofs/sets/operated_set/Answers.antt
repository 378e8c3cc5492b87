use Rattle.std.proofs.Common.{ℕ, List, length, sym, ap, ◌∙◌, subst}
use Rattle.dp_model.specs.Evaluation.{has}
use Rattle.poly_terms.specs.declared.terms.Term.{Term}
use Rattle.poly_eval.specs.Shows.{AreBits}
use Rattle.poly_eval.specs.Bits.{Tells, joined_by}
use Rattle.poly_eval.proofs.Steps.{if_both}
use Rattle.poly_eval.proofs.SetSteps.{where_bits}
use Rattle.poly_eval.proofs.sets.operated_set.Goals as goal

pub returns-clause-bits : goal.returns-clause-bits
returns-clause-bits c =
    let both = if_both c.joined_rows.result _ _ _ c.joined_rows.ensures.many c.joined_rows.ensures.bits in
    both (λ row many bits v a b fits xs ys.
    let tells = subst (λ (us : List (List Term)). Tells v us (has a) → Tells v c.deref-2.result.now (has b) → Tells v row.items (λ j. joined_by c.junction_of.result (has a j) (has b j))) c.deref.ensures.value (bits v (has a) (has b) fits) xs.bit
    (subst (λ (us : List (List Term)). Tells v us (has b)) (sym c.deref-2.ensures.value) ys.bit) in
    subst (λ (set : List ℕ). AreBits v row.items set) (sym (c.junction_of.ensures (length c.args.x.items) a b))
    (where_bits v (length c.args.x.items) row.items (λ j. joined_by c.junction_of.result (has a j) (has b j)) (many.1 ∙ ap length c.deref.ensures.value) tells))
