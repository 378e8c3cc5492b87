use Rattle.std.proofs.Common.{◌≡◌, drop, [], length}
use Rattle.dp_base.specs.Results.{each}
use Rattle.dypdl_data.specs.Variables.{variable_step, variable_names}
use Rattle.dypdl_data.proofs.state_variables.variables.Given as goal

abbrev pub invariant-loop-item : goal.invariant-loop-item
invariant-loop-item l = record {
  so_far : each (variable_step l.objects.list) l.list.items (drop l.item-index l.items) ≡ each (variable_step l.objects.list) [] l.items;
  named : l.names ≡ variable_names l.list.items;
  few : length l.list.items ≡ l.item-index;
}
