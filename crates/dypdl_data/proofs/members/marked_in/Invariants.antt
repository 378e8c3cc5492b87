use Rattle.std.proofs.Common.{◌≡◌, drop, length, replicate, false}
use Rattle.dp_base.specs.Results.{each}
use Rattle.dypdl_data.specs.Marks.{mark_step}
use Rattle.dypdl_data.proofs.members.marked_in.Given as goal

abbrev pub invariant-loop-item : goal.invariant-loop-item
invariant-loop-item l = record {
  so_far : each (mark_step l.count) l.marks.items (drop l.item-index l.items) ≡ each (mark_step l.count) (replicate l.count false) l.items;
  len : length l.marks.items ≡ l.count;
}
