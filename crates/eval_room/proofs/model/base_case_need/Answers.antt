use Rattle.eval_room.proofs.Lists.{base_case_serves}
use Rattle.eval_room.proofs.model.base_case_need.Goals as goal

pub returns : goal.returns
returns c = base_case_serves c.args.model.now c.args.b.now _ _ _ c.max.ensures c.in_ok-conditions.ensures c.in_ok-cost.ensures
