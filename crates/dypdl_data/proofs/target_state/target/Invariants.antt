use Rattle.std.proofs.Common.{◌≡◌, drop, length, replicate, None}
use Rattle.dp_base.specs.Results.{each}
use Rattle.dypdl_data.specs.Target.{target_step}
use Rattle.dypdl_data.proofs.target_state.target.Given as goal

abbrev pub invariant-loop-pair : goal.invariant-loop-pair
invariant-loop-pair l = record {
  so_far : each (target_step l.objects l.variables.list) l.held.items (drop l.pair-index l.entries) ≡ each (target_step l.objects l.variables.list) (replicate (length l.variables.list) None) l.entries;
  len : length l.held.items ≡ length l.variables.list;
}
