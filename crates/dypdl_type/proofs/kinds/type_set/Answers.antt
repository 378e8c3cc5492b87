use Rattle.dypdl_type.proofs.Typed.{set_typed}
use Rattle.dypdl_type.proofs.kinds.type_set.Goals as goal

pub returns-clause-typed : goal.returns-clause-typed
returns-clause-typed c = set_typed c.args.scope.now c.args.object c.args.e.now (c.in_ok-set.field-0-0, c.in_ok-set.set) c.in_ok-set.ensures
