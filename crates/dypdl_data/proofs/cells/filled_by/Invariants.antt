use Rattle.std.proofs.Common.{◌≡◌, drop, replicate, false}
use Rattle.dp_base.specs.Results.{each}
use Rattle.dypdl_data.specs.Cells.{filling_step, held_count}
use Rattle.dypdl_data.specs.Fillings.{filling}
use Rattle.dypdl_data.proofs.cells.filled_by.Given as goal

abbrev pub invariant-loop-pair : goal.invariant-loop-pair
invariant-loop-pair l = each (filling_step l.objects l.counts l.kind) (filling l.filled) (drop l.pair-index l.entries) ≡ each (filling_step l.objects l.counts l.kind) (record { cells = l.fn.held; given = replicate (held_count l.fn.held) false }) l.entries
