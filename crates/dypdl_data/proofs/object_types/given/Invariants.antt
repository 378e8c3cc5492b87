use Rattle.std.proofs.Common.{◌≡◌, drop, take, [], zip}
use Rattle.dp_base.specs.Results.{each}
use Rattle.dypdl_data.specs.Objects.{given_step, object_names}
use Rattle.dypdl_data.proofs.object_types.given.Given as goal

abbrev pub invariant-loop-number : goal.invariant-loop-number
invariant-loop-number l = record {
  so_far : each (given_step l.at) l.objects.items (drop l.number (zip l.names l.counts)) ≡ each (given_step l.at) [] (zip l.names l.counts);
  named : object_names l.objects.items ≡ take l.number l.names;
}
