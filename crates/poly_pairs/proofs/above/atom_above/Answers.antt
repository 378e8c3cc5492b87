use Rattle.std.proofs.Common.{length, refl, subst, ℤ, ◌+ℤ◌, ◌≤ℤ◌, w64}
use Rattle.std.proofs.lemmas.Int.{to_z-of_z}
use Rattle.std.proofs.lemmas.Option.{slice_get_read}
use Rattle.poly_pairs.proofs.Results.{if_ok}
use Rattle.poly_pairs.proofs.above.atom_above.Goals as goal

pub returns-in-Some : goal.returns-in-Some
returns-in-Some c =
    let look = c.in-Some.ensures.lookup in
    let here = slice_get_read c.args.table.now (length c.args.table.now) c.args.other c.in-Some.known.now refl look.3.0 look.1 in
    let gain = to_z-of_z w64 c.args.gain c.ranges.gain in
    if_ok c.known_above.result _ _ c.known_above.ensures (λ shown h yes v x fits meets.
    subst (λ (z : ℤ). (v c.args.other +ℤ z) ≤ℤ x) gain (h yes v x (v c.args.other) fits meets (fits c.args.other c.in-Some.known.now here)))
