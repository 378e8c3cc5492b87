use Rattle.std.proofs.Common.{◌≡◌, ◌+◌, ◌*◌, length, drop}
use Rattle.dp_base.specs.Results.{each}
use Rattle.dypdl_data.specs.Cells.{item_step, listed}
use Rattle.dypdl_data.proofs.cells.+listed.Given as goal

abbrev pub decreases-listed : goal.decreases-listed
decreases-listed l = length l.counts.now * 2

abbrev pub decreases-items_listed : goal.decreases-items_listed
decreases-items_listed l = length l.counts.now * 2 + 1

abbrev pub invariant-items_listed-loop-item : goal.invariant-items_listed-loop-item
invariant-items_listed-loop-item l =
    each (item_step l.count (listed l.objects l.kind l.counts) l.at) (record { next = l.next; cells = l.cells }) (drop l.item-index l.item-items)
    ≡ each (item_step l.count (listed l.objects l.kind l.counts) l.at) (record { next = 0; cells = l.fn.held }) l.item-items
