use Rattle.std.specs.Prelude.{int_div}
use Rattle.std.proofs.Common.{rules, ◌≡◌, ℤ, pos, ◌≤ℤ◌, ◌+ℤ◌, ◌-ℤ◌, neg_ℤ, sym, ap, ◌∙◌, subst, arith, w64, to_z, of_z}
use Rattle.std.proofs.lemmas.Int.{ints, to_z-of_z}
use mir.Val.{SFits}
use Rattle.poly_terms.specs.Worth.{worth}
use Rattle.poly_pairs.proofs.Quotients.{to_high}
use Rattle.poly_pairs.proofs.Results.{if_ok}
use Rattle.poly_pairs.proofs.above.quotient_to.Goals as goal

pub returns : goal.returns
returns c =
    let one : pos 1 ≤ℤ c.args.d = search rules in
    let told = c.in-Some.ensures in
    let gain : to_z w64 (of_z w64 c.in-Some.gain) ≡ neg_ℤ c.args.high =
    to_z-of_z w64 c.in-Some.gain (subst (SFits w64) (sym told.1) told.0) ∙ told.1 ∙ ap (λ (z : ℤ). neg_ℤ z) (to_z-of_z w64 c.args.high c.ranges.high) in
    let d = to_z-of_z w64 c.args.d c.ranges.d in
    if_ok c.quotient_above.result _ _ c.quotient_above.ensures (λ shown h yes v fits.
    let last : worth v c.deref.result.now ≡ c.args.d -ℤ pos 1 =
    ap (worth v) c.deref.ensures.value ∙ c.in_ok-last.ensures v ∙ omega (arith, ints, one, c.ranges.d) in
    to_high (int_div (worth v c.args.p.now) c.args.d) (worth v c.deref.result.now) c.args.d (to_z w64 (of_z w64 c.in-Some.gain)) c.args.high one last gain
    (subst (λ (z : ℤ). (int_div (worth v c.args.p.now) z +ℤ to_z w64 (of_z w64 c.in-Some.gain)) ≤ℤ int_div (worth v c.deref.result.now) z) d (h yes v fits)))
