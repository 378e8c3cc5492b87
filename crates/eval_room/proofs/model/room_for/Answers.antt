use Rattle.eval_room.proofs.Lists.{model_serves}
use Rattle.eval_room.proofs.model.room_for.Goals as goal

pub returns : goal.returns
returns c = model_serves c.args.model.now _ _ _ _ _ _ _ c.max.ensures c.max-2.ensures c.max-3.ensures c.in_ok-transitions.ensures c.in_ok-constraints.ensures c.in_ok-base_cases.ensures c.in_ok-bounds.ensures
