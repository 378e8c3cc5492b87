use Rattle.std.proofs.Common.{◌≡◌, ◌≤◌, length, take}
use Rattle.dypdl_ground.specs.Grounds.{all_grounded, most_ground}
use Rattle.dypdl_ground.proofs.grounding.ground_all.Given as goal

abbrev pub invariant-loop-i : goal.invariant-loop-i
invariant-loop-i l = (l.all.items ≡ all_grounded l.objects l.variables (take l.i l.ts)) × (length l.all.items ≤ most_ground)
