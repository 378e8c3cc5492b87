use Rattle.std.proofs.Common.{length, pos}
use Rattle.successors.proofs.Cases.{behind, without_cases}
use Rattle.successors.proofs.switches.push_none.Goals as goal

pub returns-clause-switches : goal.returns-clause-switches
returns-clause-switches c = λ m numbers are less.
    rw c.in_ok-push.ensures.items (behind m numbers c.args.switches.now.items _ are (without_cases m numbers (length c.args.switches.now.items) 0 (pos 0) less))
