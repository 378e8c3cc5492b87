use Rattle.std.proofs.Common.{◌≡◌, drop, []}
use Rattle.dp_base.specs.Results.{each}
use Rattle.dypdl_data.specs.Tables.{head_step, head_names}
use Rattle.dypdl_data.proofs.constant_tables.listed_heads.Given as goal

abbrev pub invariant-loop-item : goal.invariant-loop-item
invariant-loop-item l = record {
  so_far : each (head_step l.objects.list l.variables.list) l.list.items (drop l.item-index l.items) ≡ each (head_step l.objects.list l.variables.list) [] l.items;
  named : l.names ≡ head_names l.list.items;
}
