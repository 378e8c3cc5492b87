use Rattle.std.proofs.Common.{length, refl, subst, ℤ, ◌≤ℤ◌, w64}
use Rattle.std.proofs.lemmas.Int.{to_z-of_z}
use Rattle.std.proofs.lemmas.Option.{slice_get_read}
use Rattle.poly_pairs.proofs.Results.{if_ok}
use Rattle.poly_pairs.proofs.above.is_from.Goals as goal

pub returns-in-Some : goal.returns-in-Some
returns-in-Some c =
    let look = c.in-Some.ensures.lookup in
    let here = slice_get_read c.args.table.now (length c.args.table.now) c.args.atom c.in-Some.known.now refl look.3.0 look.1 in
    let low = to_z-of_z w64 c.args.low c.ranges.low in
    if_ok c.known_from.result _ _ c.known_from.ensures (λ shown h yes v fits.
    subst (λ (z : ℤ). z ≤ℤ v c.args.atom) low (h yes v (v c.args.atom) fits (fits c.args.atom c.in-Some.known.now here)))
