use Rattle.std.proofs.Common.{◌≡◌, Some, slice_get, rules}
use Rattle.cert_check.proofs.Leaps.{first_decides, some_both}
use Rattle.cert_check.proofs.wants.wanted_first.Goals as goal

pub returns-in-Some : goal.returns-in-Some
returns-in-Some c =
    let first : slice_get c.args.transition.now.preconditions 0 ≡ Some c.in-Some.condition.now = search rules in
    some_both c.wanted_in.result _ _ _ c.wanted_in.ensures c.wanted_in.ensures (λ w fails _. first_decides c.args.transition.now c.args.args.now c.in-Some.condition.now w.variable w.number first fails)
