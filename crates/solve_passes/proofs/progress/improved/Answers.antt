use Rattle.std.proofs.Common.{FitsSigned, rules, w64}
use Rattle.std.proofs.lemmas.Int.{to_z-of_z}
use Rattle.solve_passes.proofs.Words.{not_better}
use Rattle.solve_passes.proofs.progress.improved.Goals as goal

pub returns-in-Some : goal.returns-in-Some
returns-in-Some c =
    let fits : FitsSigned w64 c.in_ok-found.found.cost = search rules in
    let fits_held : FitsSigned w64 c.in-Some.held.cost = search rules in
    let worse = not_better c.args.model.now.minimize c.in_ok-found.found.cost c.in-Some.held.cost _ _ (to_z-of_z w64 c.in_ok-found.found.cost fits) (to_z-of_z w64 c.in-Some.held.cost fits_held) c.if-not-is_better.ensures in
    rw c.in_ok-found.was (c.in-Some.held, c.in-Some.is, worse)
