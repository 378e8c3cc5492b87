use Rattle.std.proofs.Common.{FitsSigned, rules, w64}
use Rattle.std.proofs.lemmas.Int.{to_z-of_z}
use Rattle.cert_check.proofs.Leaps.{row_leaves}
use Rattle.cert_check.proofs.wants.leap_over.Goals as goal

pub returns : goal.returns
returns c =
    let fits : FitsSigned w64 c.number_in-held.result = search rules in
    let back = to_z-of_z w64 c.number_in-held.result fits in
    row_leaves c.args.at.now.model.now _ c.args.place c.args.row c.number_in-held.result c.picked.result c.requires.some c.requires.row c.number_in-held.ensures (rw back at c.picked.ensures.found) (rw back at c.picked.ensures.none)
