use Rattle.pass_ends.proofs.Endings.{halts}
use Rattle.pass_ends.proofs.answers.answer_by.Goals as goal

pub returns : goal.returns
returns g c p records before after law left drops =
    halts p records before after c.args.tally.now c.args.cause left c.args.dropped.count c.args.dropped.least_floor drops c.in_ok-why.why (c.in_ok-why.ensures p records before after left) c.in_ok-best.best (c.in_ok-best.ensures.legal p records before after law left)
    (c.in_ok-best.ensures.best p records before after law left) (c.in_ok-best.ensures.held p records before after law left) c.halted.result c.halted.ensures
