use Rattle.std.proofs.Common.{◌≡◌, ◌≤◌, drop, [], length}
use Rattle.dp_base.specs.Results.{each}
use Rattle.dypdl_data.specs.Objects.{object_step}
use Rattle.dypdl_data.proofs.object_types.names_of.Given as goal

abbrev pub invariant-loop-item : goal.invariant-loop-item
invariant-loop-item l = record {
  so_far : each object_step l.names (drop l.item-index l.item-items) ≡ each object_step [] l.item-items;
  few : length l.names ≤ l.item-index;
}
