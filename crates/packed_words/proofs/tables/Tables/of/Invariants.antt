use Rattle.std.proofs.Common.{◌≡◌, ◌++◌, drop, map}
use Rattle.packed_words.specs.Tables.{shape_of}
use Rattle.packed_words.proofs.tables.Tables.of.Given as goal

-- the shapes so far and those of the tables that are left are all
abbrev pub invariant-loop-table : goal.invariant-loop-table
invariant-loop-table l = l.shapes.items ++ map (shape_of l.model) (drop l.table-index l.table-items) ≡ map (shape_of l.model) l.model.tables
