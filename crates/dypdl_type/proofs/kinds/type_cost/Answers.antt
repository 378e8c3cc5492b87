use Rattle.dypdl_type.proofs.Typed.{cost_typed}
use Rattle.dypdl_type.proofs.kinds.type_cost.Goals as goal

pub returns-clause-typed : goal.returns-clause-typed
returns-clause-typed c = cost_typed c.args.scope.now c.args.e.now c.cost.result c.cost.ensures
