use Rattle.std.proofs.Common.{rules, ◌≡◌, ℕ, List, ℤ, ◌+ℤ◌, ◌*ℤ◌, ap, ◌∙◌, w64, to_z, of_z}
use Rattle.std.proofs.lemmas.Int.{to_z-of_z}
use mir.Val.{SFits}
use Rattle.poly_terms.specs.declared.terms.Term.{Term}
use Rattle.poly_terms.specs.Worth.{worth}
use Rattle.poly_pairs.proofs.Quotients.{both_undone}
use Rattle.poly_pairs.proofs.Results.{of_some, ok_some}
use Rattle.poly_pairs.proofs.lessening.without_both.Goals as goal

pub returns-in-Some : goal.returns-in-Some
returns-in-Some c =
    let f : SFits w64 c.args.pair.times = search rules in
    let times = to_z w64 (of_z w64 c.args.pair.times) in
    let taken : (v : ℕ → ℤ) → worth v c.args.terms.now ≡ worth v c.in-Some.rest.items +ℤ times *ℤ v c.args.pair.more =
    of_some c.in_ok-rest.field-0 c.in-Some.rest _ c.in-Some.is c.in_ok-rest.ensures in
    ok_some c.with_atom.result _ _ c.with_atom.ensures (λ rest h v.
    both_undone times c.args.pair.times (v c.args.pair.less) (v c.args.pair.more) (worth v c.args.terms.now) (worth v c.in-Some.rest.items) (worth v rest.items)
    (to_z-of_z w64 c.args.pair.times f) (taken v) (h v ∙ ap (λ (xs : List Term). worth v xs +ℤ times *ℤ v c.args.pair.less) c.deref.ensures.value))
