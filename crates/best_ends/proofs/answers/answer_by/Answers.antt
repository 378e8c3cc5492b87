use Rattle.best_ends.proofs.Endings.{closes, halts}
use Rattle.best_ends.proofs.answers.answer_by.Goals as goal

pub returns-then-cause-eq0 : goal.returns-then-cause-eq0
returns-then-cause-eq0 g c b records before after law left =
    closes b records before after c.args.tally.now c.args.cause left c.if-cause-eq0.true c.in_ok-found_in.field-0 (c.in_ok-found_in.ensures.legal b records before after law left) (c.in_ok-found_in.ensures.best b records before after law left) (c.in_ok-found_in.ensures.held b records before after law left)

pub returns : goal.returns
returns g c b records before after law left =
    halts b records before after c.args.tally.now c.args.cause left c.in_ok-cause_of.field-0 (c.in_ok-cause_of.ensures b records before after left)
    c.in_ok-found_in-2.field-0 (c.in_ok-found_in-2.ensures.legal b records before after law left) (c.in_ok-found_in-2.ensures.best b records before after law left) (c.in_ok-found_in-2.ensures.held b records before after law left)
