use Rattle.eval_room.proofs.model.effect_need.Goals as goal

pub returns-in-Number : goal.returns-in-Number
returns-in-Number c = rw c.in-Number.is c.number_need.ensures

pub returns-in-Members : goal.returns-in-Members
returns-in-Members c = rw c.in-Members.is c.members_need.ensures
