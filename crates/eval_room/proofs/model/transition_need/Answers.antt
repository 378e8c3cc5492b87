use Rattle.eval_room.proofs.Lists.{transition_serves}
use Rattle.eval_room.proofs.model.transition_need.Goals as goal

pub returns : goal.returns
returns c =
    let given = c.parameters-given.ensures in
    transition_serves c.args.model.now c.args.t.now _ _ _ _ _ c.max.ensures c.max-2.ensures (rw given at c.in_ok-preconditions.ensures) (rw given at c.in_ok-effects.ensures) (rw given at c.in_ok-weight.ensures)
