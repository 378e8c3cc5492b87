use Rattle.std.proofs.Common.{◌≡◌, drop}
use Rattle.dp_base.specs.Results.{each}
use Rattle.dypdl_rules.specs.Expressions.{Reading, IsReading}
use Rattle.dypdl_rules.specs.BaseCases.{bound_step}
use Rattle.dypdl_rules.proofs.bases.push_bounds.Given as goal

abbrev pub invariant-loop-item : goal.invariant-loop-item
invariant-loop-item l = (read : Reading) → IsReading read → each (bound_step read l.declared.lists) l.bounds.items (drop l.item-index l.items) ≡ each (bound_step read l.declared.lists) l.initial.bounds.items l.items
