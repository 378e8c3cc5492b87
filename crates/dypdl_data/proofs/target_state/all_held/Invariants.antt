use Rattle.std.proofs.Common.{◌≡◌, []}
use Rattle.std.specs.Vec.Iter.{into_iter_items}
use Rattle.dp_base.specs.Results.{each}
use Rattle.dypdl_data.specs.Target.{held_step}
use Rattle.dypdl_data.proofs.target_state.all_held.Given as goal

abbrev pub invariant-loop-value : goal.invariant-loop-value
invariant-loop-value l = each (held_step l.at) l.values.items (into_iter_items l.value-iterator) ≡ each (held_step l.at) [] l.fn.held.items
