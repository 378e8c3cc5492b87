use Rattle.std.proofs.Common.{◌≡◌, pos, ◌≤ℤ◌, List, Some, slice_get, sym, subst, ◌∙◌}
use Rattle.poly_terms.specs.declared.terms.Term.{Term}
use Rattle.poly_terms.specs.Worth.{worth}
use Rattle.honest_states.proofs.Lists.{item_at}
use Rattle.honest_states.proofs.narrowing.high_of.Goals as goal

pub loop-sum-preserved : goal.loop-sum-preserved
loop-sum-preserved c = λ v fits facts h.
    let j = c.loop-sum.sum-index in
    let sum = c.sum-item.result in
    let here = subst (λ (xs : List (List Term)). slice_get xs j ≡ Some sum) c.deref-sum-items.ensures.value (item_at c.deref-sum-items.result.now j sum c.loop-sum-test.true c.sum-item.is) in
    let low = subst (λ (p : List Term). worth v p ≤ℤ pos 0) (sym (c.deref.ensures.value ∙ c.list.ensures)) (facts.at_most_zero j sum here) in
    c.lesser-end.ensures (worth v c.args.x.now) (c.loop-sum.invariant v fits facts h) (c.in_ok-other.ensures v fits low)
