use Rattle.std.proofs.Common.{length, refl, subst, ℤ, ◌≤ℤ◌, w64}
use Rattle.std.proofs.lemmas.Int.{to_z-of_z}
use Rattle.std.proofs.lemmas.Option.{slice_get_read}
use Rattle.poly_pairs.proofs.Results.{if_ok}
use Rattle.poly_pairs.proofs.above.is_to.Goals as goal

pub returns-in-Some : goal.returns-in-Some
returns-in-Some c =
    let look = c.in-Some.ensures.lookup in
    let here = slice_get_read c.args.table.now (length c.args.table.now) c.args.atom c.in-Some.known.now refl look.3.0 look.1 in
    let high = to_z-of_z w64 c.args.high c.ranges.high in
    if_ok c.known_to.result _ _ c.known_to.ensures (λ shown h yes v fits.
    subst (λ (z : ℤ). v c.args.atom ≤ℤ z) high (h yes v (v c.args.atom) fits (fits c.args.atom c.in-Some.known.now here)))
