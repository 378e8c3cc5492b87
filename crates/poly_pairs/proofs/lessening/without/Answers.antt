use Rattle.std.proofs.Common.{rules, ◌≡◌, ℤ, ◌+ℤ◌, ◌*ℤ◌, neg_ℤ, sym, ap, ◌∙◌, subst, w64}
use Rattle.std.proofs.lemmas.Int.{to_z-of_z}
use mir.Val.{SFits}
use Rattle.poly_terms.specs.Worth.{worth}
use Rattle.poly_pairs.proofs.Quotients.{undone}
use Rattle.poly_pairs.proofs.Results.{ok_some}
use Rattle.poly_pairs.proofs.lessening.without.Goals as goal

pub returns-in-Some : goal.returns-in-Some
returns-in-Some c =
    let turned : c.in-Some.opposite ≡ neg_ℤ c.args.times = search rules in
    let told = c.in-Some.ensures in
    let opposite = to_z-of_z w64 c.in-Some.opposite (subst (SFits w64) (sym told.1) told.0) in
    ok_some c.with_atom.result _ _ c.with_atom.ensures (λ rest h v.
    undone c.args.times c.in-Some.opposite (v c.args.atom) (worth v c.args.terms.now) (worth v rest.items) turned
    (h v ∙ ap (λ (z : ℤ). worth v c.args.terms.now +ℤ z *ℤ v c.args.atom) opposite))
