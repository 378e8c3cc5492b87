use Rattle.std.proofs.Common.{◌≡◌, drop}
use Rattle.dp_base.specs.Results.{each}
use Rattle.dypdl_rules.specs.Expressions.{Reading, IsReading}
use Rattle.dypdl_rules.specs.BaseCases.{base_case_step}
use Rattle.dypdl_rules.proofs.bases.push_base_cases.Given as goal

abbrev pub invariant-loop-item : goal.invariant-loop-item
invariant-loop-item l = record {
  so_far : (read : Reading) → IsReading read → each (base_case_step read l.initial.declared.lists) l.cases.items (drop l.item-index l.items) ≡ each (base_case_step read l.initial.declared.lists) l.initial.cases.items l.items;
  same : l.declared ≡ l.initial.declared;
}
