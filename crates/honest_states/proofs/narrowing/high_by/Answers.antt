use Rattle.std.proofs.Common.{pos, ◌+ℤ◌, ◌-ℤ◌, ◌*ℤ◌, ◌≤ℤ◌, List, negsuc, subst, ap, ◌∙◌, w64, to_z, of_z}
use Rattle.poly_terms.specs.declared.terms.Term.{Term}
use Rattle.poly_terms.specs.Worth.{worth}
use Rattle.honest_states.proofs.Numbers.{end_is, not_below_one}
use Rattle.honest_states.proofs.narrowing.high_by.Goals as goal

pub returns-then-branch : goal.returns-then-branch
returns-then-branch c =
    let many = rw c.in-Some-2.is at c.in_ok-many.ensures in
    let rest = rw c.in-Some-3.is at c.in_ok-rest.ensures in
    let k = to_z w64 (of_z w64 c.in-Some.times) in
    let e = to_z w64 (of_z w64 c.in-Some-guessed.end) in
    λ v fits low.
    end_is k (worth v c.args.sum.now) (worth v c.in-Some-3.rest.items) (worth v c.in-Some-2.many.items) (worth v c.args.x.now) e (not_below_one k c.if-times-lt1.false)
    (rest v ∙ ap (λ (p : List Term). worth v c.args.sum.now +ℤ negsuc 0 *ℤ worth v p) c.deref.ensures.value) (many v) low
    (subst (λ (p : List Term). pos 0 ≤ℤ (worth v p +ℤ (k *ℤ e +ℤ (k -ℤ pos 1)))) c.deref-3.ensures.value (c.in_ok-ends_at.ensures c.if-branch.true v fits))
