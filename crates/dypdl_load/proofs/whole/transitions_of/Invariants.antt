use Rattle.std.proofs.Common.{◌≡◌, ◌++◌}
use Rattle.dypdl_load.specs.Together.{transitions_of}
use Rattle.dypdl_load.proofs.whole.transitions_of.Given as goal

abbrev pub invariant-loop-item : goal.invariant-loop-item
invariant-loop-item l = l.transitions.items ++ transitions_of l.item-iterator.rest.items ≡ l.initial.transitions.items ++ transitions_of l.initial.item-iterator.rest.items
