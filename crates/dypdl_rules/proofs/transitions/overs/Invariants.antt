use Rattle.std.proofs.Common.{◌≡◌, take}
use Rattle.dypdl_rules.specs.Parameters.{overs}
use Rattle.dypdl_rules.proofs.transitions.overs.Given as goal

abbrev pub invariant-loop-param : goal.invariant-loop-param
invariant-loop-param l = l.list.items ≡ overs (take l.param-index l.params)
