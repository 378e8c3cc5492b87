use Rattle.pass_alone.proofs.Turns.{told_of}
use Rattle.pass_alone.proofs.nodes.offer_held.Goals as goal

pub returns-then-offer-word-clause-cost : goal.returns-then-offer-word-clause-cost
returns-then-offer-word-clause-cost c = told_of c.args.held.now c.cost_of.result c.cost_of.ensures
