use Rattle.std.proofs.Common.{FitsSigned, rules, w64}
use Rattle.std.proofs.lemmas.Int.{to_z-of_z}
use Rattle.successors.proofs.Cases.{case_leaves}
use Rattle.successors.proofs.switches.case_of.Goals as goal

pub returns : goal.returns
returns c = λ numbers is.
    let fits : FitsSigned w64 c.number_in-held.result = search rules in
    let back = to_z-of_z w64 c.number_in-held.result fits in
    case_leaves c.args.at.now.model.now _ numbers c.args.place c.args.switch c.number_in-held.result c.picked.result c.requires.some is c.number_in-held.ensures (rw back at c.picked.ensures.found) (rw back at c.picked.ensures.none)
