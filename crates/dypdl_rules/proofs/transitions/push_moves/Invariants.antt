use Rattle.std.proofs.Common.{◌≡◌, drop}
use Rattle.dp_base.specs.Results.{each}
use Rattle.dypdl_rules.specs.Expressions.{Reading, IsReading}
use Rattle.dypdl_rules.specs.Moves.{move_step}
use Rattle.dypdl_rules.proofs.transitions.push_moves.Given as goal

abbrev pub invariant-loop-item : goal.invariant-loop-item
invariant-loop-item l = record {
  so_far : (read : Reading) → IsReading read → each (move_step read l.initial.declared.lists) l.moves.items (drop l.item-index l.items) ≡ each (move_step read l.initial.declared.lists) l.initial.moves.items l.items;
  same : l.declared ≡ l.initial.declared;
}
