use Rattle.std.proofs.Common.{◌≡◌, drop}
use Rattle.dp_base.specs.Results.{each}
use Rattle.dypdl_rules.specs.Expressions.{Reading, IsReading}
use Rattle.dypdl_rules.specs.Conditions.{condition_step}
use Rattle.dypdl_rules.proofs.conditions.push_conditions.Given as goal

abbrev pub invariant-loop-item : goal.invariant-loop-item
invariant-loop-item l = record {
  so_far : (read : Reading) → IsReading read → each (condition_step read l.initial.declared.lists l.initial.declared.params) l.conditions.items (drop l.item-index l.items) ≡ each (condition_step read l.initial.declared.lists l.initial.declared.params) l.initial.conditions.items l.items;
  same : l.declared ≡ l.initial.declared;
}
