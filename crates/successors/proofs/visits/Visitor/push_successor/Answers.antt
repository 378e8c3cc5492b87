use Rattle.std.proofs.Common.{◌≡◌, Ok, rules}
use Rattle.spot_eval.specs.Moves.{cost_at, next_at}
use Rattle.successors.proofs.visits.Visitor.push_successor.Goals as goal

pub returns-clause-batch : goal.returns-clause-batch
returns-clause-batch g c =
    let m = c.args.self.now.model in
    let visit = c.args.self.now.visit in
    let cost : cost_at m visit.state visit.cost c.args.number (c.args.transition.now, c.args.at.now.args.now) ≡ Ok c.in_ok-cost.cost = search rules in
    let next : next_at m visit.state c.args.number (c.args.transition.now, c.args.at.now.args.now) ≡ Ok c.done.result = search rules in
    rw (cost, next) c.push_next.ensures.batch
