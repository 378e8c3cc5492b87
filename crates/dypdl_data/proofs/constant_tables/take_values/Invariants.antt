use Rattle.std.proofs.Common.{◌≡◌, drop}
use Rattle.dp_base.specs.Results.{each}
use Rattle.dypdl_data.specs.Cells.{value_step, table_names}
use Rattle.dypdl_data.proofs.constant_tables.take_values.Given as goal

abbrev pub invariant-loop-pair : goal.invariant-loop-pair
invariant-loop-pair l = record {
  so_far : each (value_step l.objects) l.tables.items (drop l.pair-index l.pair-items) ≡ each (value_step l.objects) l.fn.tables.items l.pair-items;
  named : l.names ≡ table_names l.tables.items;
}
