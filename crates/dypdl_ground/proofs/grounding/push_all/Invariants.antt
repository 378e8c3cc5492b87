use Rattle.std.proofs.Common.{◌≡◌, ◌++◌, map}
use Rattle.dypdl_ground.specs.Grounds.{ground_with}
use Rattle.dypdl_ground.proofs.grounding.push_all.Given as goal

abbrev pub invariant-loop-args : goal.invariant-loop-args
invariant-loop-args l = l.grounds.items ++ map (ground_with l.transition) l.args-iterator.rest.items ≡ l.initial.grounds.items ++ map (ground_with l.transition) l.initial.args-iterator.rest.items
