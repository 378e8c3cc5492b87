use Rattle.std.specs.Prelude.{int_lt}
use Rattle.std.proofs.Common.{rules, ◌≡◌, true, false, ℤ, pos, ◌≤ℤ◌, subst, w64}
use Rattle.std.proofs.lemmas.Int.{to_z-of_z}
use mir.Val.{SFits}
use Rattle.ring_laws.proofs.Ring.{times_up, times_down}
use Rattle.poly_pairs.proofs.Quotients.{above_zero, not_above}
use Rattle.poly_pairs.proofs.Results.{if_ok}
use Rattle.poly_pairs.proofs.lessening.may_stand.Goals as goal

pub returns-then-lone-gt0 : goal.returns-then-lone-gt0
returns-then-lone-gt0 c =
    let f : SFits w64 c.args.lone.times = search rules in
    let up = above_zero c.args.lone.times (subst (λ (z : ℤ). int_lt (pos 0) z ≡ true) (to_z-of_z w64 c.args.lone.times f) c.if-lone-gt0.true) in
    let n = to_z-of_z w64 c.args.n c.ranges.n in
    if_ok c.is_from.result _ _ c.is_from.ensures (λ shown h yes v fits.
    times_up c.args.lone.times c.args.n (v c.args.lone.atom) up (subst (λ (z : ℤ). z ≤ℤ v c.args.lone.atom) n (h yes v fits)))

pub returns-else-lone-gt0 : goal.returns-else-lone-gt0
returns-else-lone-gt0 c =
    let f : SFits w64 c.args.lone.times = search rules in
    let low = not_above c.args.lone.times (pos 0) (subst (λ (z : ℤ). int_lt (pos 0) z ≡ false) (to_z-of_z w64 c.args.lone.times f) c.if-lone-gt0.false) in
    let n = to_z-of_z w64 c.args.n c.ranges.n in
    if_ok c.is_to.result _ _ c.is_to.ensures (λ shown h yes v fits.
    times_down c.args.lone.times (v c.args.lone.atom) c.args.n low (subst (λ (z : ℤ). v c.args.lone.atom ≤ℤ z) n (h yes v fits)))
