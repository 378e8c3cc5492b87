use Rattle.std.specs.Prelude.{int_lt}
use Rattle.std.proofs.Common.{rules, ◌≡◌, true, ℕ, List, ℤ, pos, ◌+ℤ◌, ◌*ℤ◌, ap, ◌∙◌, subst, w64, to_z, of_z}
use Rattle.std.proofs.lemmas.Int.{to_z-of_z}
use mir.Val.{SFits}
use Rattle.poly_terms.specs.declared.terms.Term.{Term}
use Rattle.poly_terms.specs.Worth.{worth}
use Rattle.poly_pairs.proofs.Quotients.{pair_below, above_zero}
use Rattle.poly_pairs.proofs.Results.{of_some, ok_some}
use Rattle.poly_pairs.proofs.lessening.by_pair.Goals as goal

pub returns-then-branch : goal.returns-then-branch
returns-then-branch c =
    let f : SFits w64 c.args.pair.times = search rules in
    let same = to_z-of_z w64 c.args.pair.times f in
    let up = above_zero c.args.pair.times (subst (λ (z : ℤ). int_lt (pos 0) z ≡ true) same c.if-pair-gt0.true) in
    let times = to_z w64 (of_z w64 c.args.pair.times) in
    let gain = to_z w64 (of_z w64 c.in-Some-wanted.gain) in
    let rest = c.in-Some.rest.items in
    let taken : (v : ℕ → ℤ) → worth v c.args.terms.now +ℤ c.args.pair.times *ℤ v c.args.pair.less ≡ worth v rest +ℤ c.args.pair.times *ℤ v c.args.pair.more =
    of_some c.in_ok-rest.field-0 c.in-Some.rest _ c.in-Some.is c.in_ok-rest.ensures in
    ok_some c.with_number.result _ _ c.with_number.ensures (λ sum h v fits.
    pair_below c.args.pair.times (v c.args.pair.less) gain (v c.args.pair.more) (worth v c.args.terms.now) (worth v rest) (worth v sum.items) up
    (c.in_ok-is_above.ensures c.if-branch.true v fits) (taken v)
    (h v ∙ ap (λ (xs : List Term). worth v xs +ℤ times *ℤ gain) c.deref-then-branch.ensures.value ∙ ap (λ (z : ℤ). worth v rest +ℤ z *ℤ gain) same))
