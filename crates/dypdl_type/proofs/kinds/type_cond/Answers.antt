use Rattle.dypdl_type.proofs.Typed.{condition_typed}
use Rattle.dypdl_type.proofs.kinds.type_cond.Goals as goal

pub returns-clause-typed : goal.returns-clause-typed
returns-clause-typed c = condition_typed c.args.scope.now c.args.e.now c.condition.result c.condition.ensures
