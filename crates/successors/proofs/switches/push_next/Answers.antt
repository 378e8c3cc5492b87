use Rattle.std.proofs.Common.{length}
use Rattle.std.proofs.lemmas.Option.{slice_get_within}
use Rattle.successors.proofs.switches.push_next.Goals as goal

pub returns-in_ok-push_none-in-None-clause-switches : goal.returns-in_ok-push_none-in-None-clause-switches
returns-in_ok-push_none-in-None-clause-switches c = λ m numbers g are there _ _.
    c.in_ok-push_none-in-None.ensures.switches m numbers are (slice_get_within numbers (length c.args.switches.now.items) g there)
