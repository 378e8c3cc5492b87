use Rattle.std.proofs.Common.{◌≡◌, drop, []}
use Rattle.dp_base.specs.Results.{each}
use Rattle.dypdl_data.specs.Tables.{arg_step}
use Rattle.dypdl_data.proofs.heads.args_of.Given as goal

abbrev pub invariant-loop-item : goal.invariant-loop-item
invariant-loop-item l = each (arg_step l.objects.list) l.args.items (drop l.item-index l.item-items) ≡ each (arg_step l.objects.list) [] l.item-items
