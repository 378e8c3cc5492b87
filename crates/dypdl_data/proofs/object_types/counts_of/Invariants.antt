use Rattle.std.proofs.Common.{◌≡◌, drop, length, replicate, None}
use Rattle.dp_base.specs.Results.{each}
use Rattle.dypdl_data.specs.Objects.{number_step}
use Rattle.dypdl_data.proofs.object_types.counts_of.Given as goal

abbrev pub invariant-loop-pair : goal.invariant-loop-pair
invariant-loop-pair l = record {
  so_far : each (number_step l.names) l.counts.items (drop l.pair-index l.entries) ≡ each (number_step l.names) (replicate (length l.names) None) l.entries;
  len : length l.counts.items ≡ length l.names;
}
