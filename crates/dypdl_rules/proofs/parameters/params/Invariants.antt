use Rattle.std.proofs.Common.{◌≡◌, drop, []}
use Rattle.dp_base.specs.Results.{each}
use Rattle.dypdl_rules.specs.Parameters.{param_step}
use Rattle.dypdl_rules.proofs.parameters.params.Given as goal

abbrev pub invariant-loop-item : goal.invariant-loop-item
invariant-loop-item l = each (param_step l.declared.lists) l.params.items (drop l.item-index l.item-items) ≡ each (param_step l.declared.lists) [] l.item-items
