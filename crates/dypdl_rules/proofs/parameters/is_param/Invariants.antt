use Rattle.std.proofs.Common.{◌≡◌, drop}
use Rattle.dypdl_nodes.specs.Shapes.{is_among}
use Rattle.dypdl_rules.specs.Parameters.{param_names}
use Rattle.dypdl_rules.proofs.parameters.is_param.Given as goal

abbrev pub invariant-loop-param : goal.invariant-loop-param
invariant-loop-param l = is_among (param_names (drop l.param-index l.params)) l.word ≡ is_among (param_names l.params) l.word
