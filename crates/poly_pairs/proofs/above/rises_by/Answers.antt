use Rattle.std.proofs.Common.{rules, ◌≡◌, ℤ, pos, ◌≤ℤ◌, ◌+ℤ◌, ◌*ℤ◌, sym, subst, w64}
use Rattle.std.proofs.lemmas.Int.{to_z-of_z}
use mir.Val.{SFits}
use Rattle.poly_terms.specs.Worth.{worth}
use Rattle.poly_pairs.proofs.Quotients.{rises}
use Rattle.poly_pairs.proofs.Results.{if_ok}
use Rattle.poly_pairs.proofs.above.rises_by.Goals as goal

pub returns-in-Some : goal.returns-in-Some
returns-in-Some c =
    let one : pos 1 ≤ℤ c.args.d = search rules in
    let up : pos 0 ≤ℤ c.args.gain = search rules in
    let many : c.in-Some.n ≡ c.args.d *ℤ c.args.gain = search rules in
    let told = c.in-Some.ensures in
    let n = to_z-of_z w64 c.in-Some.n (subst (SFits w64) (sym told.1) told.0) in
    if_ok c.is_above_by.result _ _ c.is_above_by.ensures (λ shown h yes v fits.
    rises (worth v c.args.p.now) (worth v c.args.q.now) c.args.d c.args.gain c.in-Some.n one up (c.in_ok-at_least_zero.ensures c.if-not-branch.false v fits) many
    (subst (λ (z : ℤ). (worth v c.args.q.now +ℤ z) ≤ℤ worth v c.args.p.now) n (h yes v fits)))
