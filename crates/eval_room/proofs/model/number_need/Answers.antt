use Rattle.std.proofs.Common.{◌∙◌, sym}
use Rattle.eval_room.proofs.Lists.{number_serves}
use Rattle.eval_room.proofs.model.number_need.Goals as goal

pub returns-then-is_number : goal.returns-then-is_number
returns-then-is_number c = number_serves c.args.model.now c.args.given c.args.v c.args.n.now _ (sym c.is_number.ensures ∙ c.if-is_number.true) c.in_ok-need.ensures
