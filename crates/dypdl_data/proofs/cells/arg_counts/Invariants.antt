use Rattle.std.proofs.Common.{◌≡◌, map, take}
use Rattle.dp_model.specs.Typing.{type_count}
use Rattle.dypdl_data.proofs.cells.arg_counts.Given as goal

abbrev pub invariant-loop-object : goal.invariant-loop-object
invariant-loop-object l = l.counts.items ≡ map (type_count l.objects) (take l.object-index l.args)
