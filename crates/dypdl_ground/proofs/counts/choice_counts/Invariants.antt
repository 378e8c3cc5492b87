use Rattle.std.proofs.Common.{◌≡◌, map, take}
use Rattle.dypdl_ground.specs.Grounds.{choice_count}
use Rattle.dypdl_ground.proofs.counts.choice_counts.Given as goal

abbrev pub invariant-loop-over : goal.invariant-loop-over
invariant-loop-over l = l.counts.items ≡ map (choice_count l.objects l.variables) (take l.over-index l.params)
