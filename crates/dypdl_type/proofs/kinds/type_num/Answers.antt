use Rattle.dypdl_type.proofs.Typed.{number_typed}
use Rattle.dypdl_type.proofs.kinds.type_num.Goals as goal

pub returns-clause-typed : goal.returns-clause-typed
returns-clause-typed c = number_typed c.args.scope.now c.args.e.now c.number.result c.number.ensures
