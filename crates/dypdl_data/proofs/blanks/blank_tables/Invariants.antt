use Rattle.std.proofs.Common.{◌≡◌, ◌++◌, map}
use Rattle.std.specs.Vec.Iter.{into_iter_items}
use Rattle.dypdl_data.specs.Tables.{blank_table}
use Rattle.dypdl_data.proofs.blanks.blank_tables.Given as goal

abbrev pub invariant-loop-head : goal.invariant-loop-head
invariant-loop-head l = record {
  so_far : l.tables.items ≡ map (blank_table l.objects) l.yielded;
  all : l.yielded ++ into_iter_items l.head-iterator ≡ l.fn.heads.items;
}
