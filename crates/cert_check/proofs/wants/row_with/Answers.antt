use Rattle.std.proofs.Common.{FitsSigned, refl, rules, w64}
use Rattle.std.proofs.lemmas.Int.{to_z-of_z}
use Rattle.cert_check.proofs.Leaps.{alone, in_front}
use Rattle.cert_check.proofs.wants.row_with.Goals as goal

pub returns-then-goes_on : goal.returns-then-goes_on
returns-then-goes_on c =
    let fits : FitsSigned w64 c.args.wanted.number = search rules in
    let next = c.if-goes_on.ensures refl in
    rw (to_z-of_z w64 c.args.wanted.number fits) (λ m place there kind wants is. in_front m place c.args.wanted.variable c.args.wanted.number c.args.behind kind wants is next.2 next.3)

pub returns : goal.returns
returns c =
    let fits : FitsSigned w64 c.args.wanted.number = search rules in
    rw (to_z-of_z w64 c.args.wanted.number fits) (λ m place there kind wants is. alone m place c.args.wanted.variable c.args.wanted.number there kind wants)
