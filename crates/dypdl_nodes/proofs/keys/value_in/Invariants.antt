use Rattle.std.proofs.Common.{◌≡◌, drop}
use Rattle.yaml_tree.specs.Fields.{value_in}
use Rattle.dypdl_nodes.proofs.keys.value_in.Given as goal

abbrev pub invariant-loop-entry : goal.invariant-loop-entry
invariant-loop-entry l = value_in l.name (drop l.entry-index l.entries) ≡ value_in l.name l.entries
