use Rattle.std.proofs.Common.{◌≡◌, ◌++◌, take}
use Rattle.dypdl_rules.proofs.parameters.push_params.Given as goal

abbrev pub invariant-loop-param : goal.invariant-loop-param
invariant-loop-param l = l.declared ≡ record l.initial.declared { params = l.initial.declared.params ++ take l.param-index l.params }
