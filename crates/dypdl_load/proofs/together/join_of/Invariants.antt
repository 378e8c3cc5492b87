use Rattle.std.proofs.Common.{◌≡◌, None, drop}
use Rattle.dp_base.specs.Results.{each}
use Rattle.dypdl_load.specs.Together.{join_step}
use Rattle.dypdl_load.proofs.together.join_of.Given as goal

-- what is left decides
abbrev pub invariant-loop-item : goal.invariant-loop-item
invariant-loop-item l = each join_step l.held (drop l.item-index l.moves) ≡ each join_step None l.moves
